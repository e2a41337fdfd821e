-- By hand, since the reel is a list of tests and the loop a test of records: no_fault and fault_at lead from one to the other.
use Rattle.std.proofs.Common.{arith, below_more}
use Rattle.std.proofs.lemmas.Result.{err_from_is_err_and}
use Rattle.reel.proofs.First.{fault_at, no_fault}
use Rattle.reel.proofs.Lawfulness.{lawful_from_none, unlawful_from_some}
use Rattle.reel.proofs.checks.Layout.check_records.Goals as goal

pub returns-in_err-record : goal.returns-in_err-record
returns-in_err-record c =
    let layout = c.args.self.now in
    let p = err_from_is_err_and c.from_residual.result c.from_residual.ensures.1 in
    let found = fault_at layout.bytes.now c.loop-k.k _ layout.passed c.loop-k.invariant (omega arith) c.in_err-record.ensures in
    rw (p.1, p.2) (record { answer = found; lawful = unlawful_from_some _ _ found })

pub loop-k-preserved : goal.loop-k-preserved
loop-k-preserved c = below_more _ _ c.loop-k.invariant c.in_ok-record.ensures.0

pub returns : goal.returns
returns c =
    let layout = c.args.self.now in
    let none = no_fault layout.bytes.now layout.passed (λ k lt. c.loop-k.invariant k (omega arith)) in
    record { answer = none; lawful = lawful_from_none _ none }
