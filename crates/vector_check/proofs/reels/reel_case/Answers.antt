use Rattle.std.proofs.Common.{ℕ, Global, Vec, ap, sym, ◌∙◌}
use Rattle.std.specs.Option.{option_copied, option_map}
use Rattle.std.specs.Result.{result_ok}
use Rattle.std.proofs.lemmas.Result.{err_from_is_err_and}
use Rattle.vector_check.specs.Reels.{reel_of}
use Rattle.vector_check.proofs.ReelLemmas.{no_answer, no_reel}
use Rattle.vector_check.proofs.reels.reel_case.Goals as goal

pub returns-in_err-name : goal.returns-in_err-name
returns-in_err-name c =
    let none = c.ok_or.ensures.ok_part ∙ ap result_ok c.in_err-name.was in
    let p = err_from_is_err_and c.from_residual.result c.from_residual.ensures.1 in
    rw p.1
    (no_answer (reel_of c.args.reels.now) c.args.line.now (rw none at c.first_word.ensures))

pub returns-in_err-bytes : goal.returns-in_err-bytes
returns-in_err-bytes c =
    let first = rw c.in_ok-name.ensures.ok_part at c.first_word.ensures in
    let items = λ (v : Vec ℕ Global). v.items in
    let none = c.ok_or-2.ensures.ok_part ∙ ap result_ok c.in_err-bytes.was in
    let p = err_from_is_err_and c.from_residual-in_err-bytes.result c.from_residual-in_err-bytes.ensures.1 in
    rw p.1
    (no_reel (reel_of c.args.reels.now) c.args.line.now c.in_ok-name.name.now c.in_ok-name.answer.now first
    (ap (option_map items) (sym c.get.ensures.value ∙ ap option_copied none)))
