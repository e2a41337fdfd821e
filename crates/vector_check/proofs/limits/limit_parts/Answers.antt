use Rattle.std.proofs.Common.{ap, ◌∙◌, rules}
use Rattle.std.specs.Result.{result_ok}
use Rattle.std.proofs.lemmas.Result.{err_from_is_err_and}
use Rattle.std.specs.String.{string_bytes}
use Rattle.vector_check.proofs.LimitLemmas.{no_answer, no_codes, no_length, refusal_parts}
use Rattle.vector_check.proofs.limits.limit_parts.Goals as goal

pub returns-in_err-front : goal.returns-in_err-front
returns-in_err-front c =
    let none = c.ok_or.ensures.ok_part ∙ ap result_ok c.in_err-front.was in
    let p = err_from_is_err_and c.from_residual.result c.from_residual.ensures.1 in
    rw (p.1, p.2) (no_answer c.args.line.now (rw none at c.last_word.ensures))

pub returns-in_err-front-2 : goal.returns-in_err-front-2
returns-in_err-front-2 c =
    let last = rw c.in_ok-front.ensures.ok_part at c.last_word.ensures in
    let none = c.ok_or-2.ensures.ok_part ∙ ap result_ok c.in_err-front-2.was in
    let p = err_from_is_err_and c.from_residual-in_err-front-2.result c.from_residual-in_err-front-2.ensures.1 in
    rw (p.1, p.2)
    (no_length c.args.line.now c.in_ok-front.front.now c.in_ok-front.last.now last (rw none at c.last_word-2.ensures))

pub returns-in_err-codes : goal.returns-in_err-codes
returns-in_err-codes c =
    let last = rw c.in_ok-front.ensures.ok_part at c.last_word.ensures in
    let before = rw c.in_ok-front-2.ensures.ok_part at c.last_word-2.ensures in
    let none = c.ok_or-3.ensures.ok_part ∙ ap result_ok c.in_err-codes.was in
    let p = err_from_is_err_and c.from_residual-in_err-codes.result c.from_residual-in_err-codes.ensures.1 in
    rw (p.1, p.2)
    (no_codes c.args.line.now c.in_ok-front.front.now c.in_ok-front.last.now c.in_ok-front-2.front.now c.in_ok-front-2.word.now last before (search rules)
    (rw none at c.last_word-3.ensures))

pub returns : goal.returns
returns c =
    let last = rw c.in_ok-front.ensures.ok_part at c.last_word.ensures in
    let before = rw c.in_ok-front-2.ensures.ok_part at c.last_word-2.ensures in
    let codes = rw c.in_ok-codes.ensures.ok_part at c.last_word-3.ensures in
    refusal_parts c.args.line.now c.in_ok-front.front.now c.in_ok-front.last.now c.in_ok-front-2.front.now c.in_ok-front-2.word.now
    c.in_ok-codes.codes.now c.in_ok-codes.length.now (string_bytes c.in_ok-format.field-0) last before (search rules) codes (search rules)
