use Rattle.std.proofs.Common.{ap, ◌∙◌}
use Rattle.std.specs.Result.{result_ok}
use Rattle.std.proofs.lemmas.Result.{err_from_is_err_and}
use Rattle.vector_check.proofs.UnpackLemmas.{no_answer, no_bytes}
use Rattle.vector_check.proofs.unpacks.unpack_case.Goals as goal

pub returns-in_err-rate : goal.returns-in_err-rate
returns-in_err-rate c =
    let none = c.ok_or.ensures.ok_part ∙ ap result_ok c.in_err-rate.was in
    let p = err_from_is_err_and c.from_residual.result c.from_residual.ensures.1 in
    rw p.1 (no_bytes c.args.line.now (rw none at c.first_word.ensures))

pub returns-in_err-bytes : goal.returns-in_err-bytes
returns-in_err-bytes c =
    let first = rw c.in_ok-rate.ensures.ok_part at c.first_word.ensures in
    let none = c.ok_or-2.ensures.ok_part ∙ ap result_ok c.in_err-bytes.was in
    let rest = rw none at c.first_word-2.ensures in
    let p = err_from_is_err_and c.from_residual-in_err-bytes.result c.from_residual-in_err-bytes.ensures.1 in
    rw p.1
    (no_answer c.args.line.now c.in_ok-rate.rate.now c.in_ok-rate.rest.now first rest)
