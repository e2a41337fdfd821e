use Rattle.std.proofs.Common.{ap, ◌∙◌, refl, rules}
use Rattle.std.specs.Io.Iter.{split_byte, split_known_bytes}
use Rattle.std.specs.Vec.{vec_items}
use Rattle.packet_text.specs.Lines.{AnswersLine}
use Rattle.packet_text.proofs.Answering.{IsNext, start, step, finish, is_next, was_ok}
use Rattle.packet_text.proofs.answer_lines.Goals as goal

pub loop-line-init : goal.loop-line-init
loop-line-init g c = record {
  byte = search rules;
  answered = start (g.R.Read.remaining c.args.input) (split_known_bytes g.R.Read.remaining c.into_iter-line-iterator.result) (g.W.Write.contents c.args.output.now)
      (ap (split_known_bytes g.R.Read.remaining) c.into_iter-line-iterator.ensures.into_iter_gives ∙ c.split-line-items.ensures.bytes);
}

pub loop-line-preserved : goal.loop-line-preserved
loop-line-preserved g c =
    let gives = c.in-Some.ensures.steps in
    let line = vec_items c.in_ok-line.line in
    let old = split_known_bytes g.R.Read.remaining c.loop-line.line-iterator in
    let new = split_known_bytes g.R.Read.remaining c.next.new.self in
    let next : IsNext line old new
    = is_next vec_items c.in-Some.line c.in_ok-line.line (split_byte c.loop-line.line-iterator) old new (was_ok c.in-Some.line _ c.in_ok-line.line _ refl (λ e h. h) c.in_ok-line.ensures.cases) c.loop-line.invariant.byte gives.2 in
    let answers : AnswersLine line (g.W.Write.contents c.loop-line.output) (g.W.Write.contents c.answer_line.new.output)
    = rw c.deref.ensures.value at c.in_ok-answer_line.ensures in
    record {
      byte = gives.1 ∙ c.loop-line.invariant.byte;
      answered = step (g.R.Read.remaining c.args.input) line old new (g.W.Write.contents c.args.output.now) (g.W.Write.contents c.loop-line.output)
          (g.W.Write.contents c.answer_line.new.output) c.loop-line.invariant.answered next answers;
    }

pub returns : goal.returns
returns g c =
    finish (g.R.Read.remaining c.args.input) (split_known_bytes g.R.Read.remaining c.loop-line.line-iterator) (g.W.Write.contents c.args.output.now) (g.W.Write.contents c.loop-line.output)
    c.loop-line.invariant.answered c.in-None.ensures.steps.2
