use Rattle.std.specs.String.{string_bytes}
use Rattle.vector_check.proofs.PackLemmas.{pack_judged}
use Rattle.vector_check.proofs.packs.PackFileCaseFile.compare.Goals as goal

pub returns : goal.returns
returns c =
    let case = c.in_ok-case.case in
    pack_judged string_bytes c.args.line.now case.rate.now case.codes.now case.packet.now c.in_ok-differences.field-0 c.in_ok-case.ensures
    c.in_ok-differences.ensures
