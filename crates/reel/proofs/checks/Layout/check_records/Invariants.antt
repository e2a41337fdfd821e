use Rattle.std.proofs.Common.{◌≡◌, ℕ, ◌<◌, None}
use Rattle.reel.specs.Tests.{first, record_tests}
use Rattle.reel.proofs.checks.Layout.check_records.Given as goal

-- the records before k pass
abbrev pub invariant-loop-k : goal.invariant-loop-k
invariant-loop-k l = (j : ℕ) → j < l.k → first (record_tests l.self.bytes.now j) ≡ None
