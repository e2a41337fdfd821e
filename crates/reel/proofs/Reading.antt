-- The answer for a record of a lawful reel, as a theorem on any result of reading it.
use Rattle.std.proofs.Common.{◌≡◌, ℕ, ◌<◌, List, Some, None, Ok, Err, Result, arith}
use Rattle.std.specs.Result as results
use Rattle.service.specs.declared.refusals.Fault.{Fault}
use Rattle.service.specs.Refusals.{fault_is}
use Rattle.reel.specs.declared.records.Record.{Record}
use Rattle.reel.specs.Layout.{count}
use Rattle.reel.specs.Records.{IsRecord, RecordAt}
use Rattle.reel.specs.Tests.{first, fault, record_tests}
use Rattle.reel.proofs.First.{record_passes}

-- a record below the count of a lawful reel is there
pub record_at_lem : (bs : List ℕ) (k : ℕ) (r : Result Record Fault) → fault bs ≡ None → k < count bs
    → results.MatchResult r (λ x. (first (record_tests bs k) ≡ None) × IsRecord bs k x) (λ e. first (record_tests bs k) ≡ Some (fault_is e))
    → RecordAt bs k (results.result_ok r)
record_at_lem bs k (Ok x) lawful lt h = (lt, h.1)
record_at_lem bs k (Err e) lawful lt h =
    let passes = record_passes bs k lawful lt in
    let z : ◌≡◌ {A = ℕ} 0 1 = cc in absurd (omega arith)
