use Rattle.std.specs.String.{string_bytes}
use Rattle.vector_check.specs.Limits.{limit_of}
use Rattle.vector_check.proofs.LimitLemmas.{limit_judged}
use Rattle.vector_check.proofs.limits.LimitFileCaseFile.compare.Goals as goal

pub returns : goal.returns
returns c =
    limit_judged string_bytes c.args.line.now (limit_of c.in_ok-case.case) c.in_ok-difference.field-0 c.in_ok-case.ensures
    c.in_ok-difference.ensures
