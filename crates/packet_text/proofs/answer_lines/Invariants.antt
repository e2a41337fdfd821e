use Rattle.std.proofs.Common.{◌≡◌}
use Rattle.std.specs.Option.{IfSome}
use Rattle.std.specs.Io.Iter.{split_byte, split_known_bytes}
use Rattle.packet_text.proofs.Answering.{Answered}
use Rattle.packet_text.proofs.answer_lines.Given as goal

-- the lines so far are answered
abbrev pub invariant-loop-line : goal.invariant-loop-line
invariant-loop-line g l = record {
  byte : split_byte l.line-iterator ≡ 10;
  answered : IfSome (g.R.Read.remaining l.fn.input) (λ input.
      Answered input (split_known_bytes g.R.Read.remaining l.line-iterator) (g.W.Write.contents l.fn.output) (g.W.Write.contents l.output));
}
