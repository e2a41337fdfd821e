use Rattle.std.proofs.Common.{sym, subst, ◌∙◌}
use Rattle.std.specs.String.{string_bytes}
use Rattle.vector_check.specs.Limits.{AnswersLimit, limit_of}
use Rattle.vector_check.proofs.LimitLemmas.{limit_found}
use Rattle.vector_check.proofs.limits.LimitCase.difference.Goals as goal

pub returns : goal.returns
returns c =
    let x = limit_of c.args.self.now in
    limit_found string_bytes x c.as_str.result.now c.as_str-2.result.now c.as_str-3.result.now c.difference.result
    (c.as_str.ensures.value ∙ c.in_ok-asked.ensures.ok) c.as_str-2.ensures.value
    (subst (AnswersLimit x) (sym c.as_str-3.ensures.value) c.in_ok-answered.ensures) c.difference.ensures
