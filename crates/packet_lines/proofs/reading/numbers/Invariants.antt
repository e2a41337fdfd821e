use Rattle.std.proofs.Common.{◌≡◌, map}
use Rattle.std.specs.Vec.{vec_len}
use Rattle.packet_lines.specs.Reading.{numbers}
use Rattle.packet_lines.proofs.Numbers.{behind, from}
use Rattle.packet_lines.proofs.reading.numbers.Given as goal

-- there is a value for each word so far, and what is left is read behind the values so far
abbrev pub invariant-loop-word : goal.invariant-loop-word
invariant-loop-word l = record {
  count : vec_len l.values ≡ l.word-index;
  value : behind l.values.items (numbers (from l.words l.word-index)) ≡ numbers (map (λ w. w.now) l.words);
}
