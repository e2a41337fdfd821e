use Rattle.std.specs.String.{string_bytes}
use Rattle.vector_check.proofs.UnpackLemmas.{unpack_judged}
use Rattle.vector_check.proofs.unpacks.UnpackFileCaseFile.compare.Goals as goal

pub returns : goal.returns
returns c =
    let case = c.in_ok-case.case in
    unpack_judged string_bytes c.args.line.now case.rate.now case.bytes.now case.answer.now c.in_ok-difference.field-0 c.in_ok-case.ensures
    c.in_ok-difference.ensures
