use Rattle.std.proofs.Common.{All, subst, arith}
use Rattle.std.proofs.lemmas.List.{take_all}
use Rattle.std.proofs.lemmas.List.Elements.{All-more}
use Rattle.vector_check.specs.declared.tallies.Tally.{Tally}
use Rattle.vector_check.specs.Tallies.{IsAllRight}
use Rattle.vector_check.proofs.tallies.verdict.Goals as goal

pub loop-tally-preserved : goal.loop-tally-preserved
loop-tally-preserved c =
    let blank : Tally = record { compared = 0; differ = 0 } in
    All-more IsAllRight c.args.tallies.now c.loop-tally.tally-index blank c.loop-tally-test.true c.loop-tally.invariant c.in_ok-verdict.ensures

pub returns : goal.returns
returns c =
    let tallies = c.args.tallies.now in
    let i = c.loop-tally.tally-index in
    subst (All IsAllRight) (take_all i tallies (omega (arith, c.loop-tally-test.false))) c.loop-tally.invariant
