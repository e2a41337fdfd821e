use Rattle.std.specs.String.{string_bytes}
use Rattle.vector_check.specs.Reels.{reel_of}
use Rattle.vector_check.proofs.ReelLemmas.{reel_judged}
use Rattle.vector_check.proofs.reels.ReelFileCaseFile.compare.Goals as goal

pub returns : goal.returns
returns c =
    let case = c.in_ok-case.case in
    reel_judged (reel_of c.args.self.now.reels) string_bytes c.args.line.now case.name.now case.bytes.now case.answer.now
    c.in_ok-difference.field-0 c.in_ok-case.ensures c.in_ok-difference.ensures
