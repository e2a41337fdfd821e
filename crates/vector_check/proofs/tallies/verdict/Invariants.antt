use Rattle.std.proofs.Common.{All, take}
use Rattle.vector_check.specs.Tallies.{IsAllRight}
use Rattle.vector_check.proofs.tallies.verdict.Given as goal

-- the tallies so far are all right
abbrev pub invariant-loop-tally : goal.invariant-loop-tally
invariant-loop-tally l = All IsAllRight (take l.tally-index l.tallies)
