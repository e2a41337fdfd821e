-- The list of tests passes exactly the lawful reels.
use Rattle.std.proofs.Common.{◌≡◌, ℕ, List, Some, None, arith, rules}
use Rattle.service.specs.Refusals.{Answer}
use Rattle.reel.specs.Tests.{first, header_tests, record_tests, fault}
use Rattle.reel.specs.Lawful.{LawfulHeader, LawfulRecord, Lawful}
use Rattle.reel.proofs.First.{no_fault, header_passes, record_passes}

header_lawful : (bs : List ℕ) → first (header_tests bs) ≡ None → LawfulHeader bs
header_lawful bs h = search rules

record_lawful : (bs : List ℕ) (k : ℕ) → first (record_tests bs k) ≡ None → LawfulRecord bs k
record_lawful bs k h = search rules

lawful_header : (bs : List ℕ) → LawfulHeader bs → first (header_tests bs) ≡ None
lawful_header bs l = search rules

lawful_record : (bs : List ℕ) (k : ℕ) → LawfulRecord bs k → first (record_tests bs k) ≡ None
lawful_record bs k l = search rules

-- a reel with no fault is lawful
pub lawful_from_none : (bs : List ℕ) → fault bs ≡ None → Lawful bs
lawful_from_none bs h = record {
  header = header_lawful bs (header_passes bs h);
  records = λ k lt. record_lawful bs k (record_passes bs k h lt);
}

-- a lawful reel has no fault
none_from_lawful : (bs : List ℕ) → Lawful bs → fault bs ≡ None
none_from_lawful bs l = no_fault bs (lawful_header bs l.header) (λ k lt. lawful_record bs k (l.records k lt))

pub unlawful_from_some : (bs : List ℕ) (a : Answer) → fault bs ≡ Some a → Lawful bs → ⊥
unlawful_from_some bs a h l =
    let none = none_from_lawful bs l in
    let z : ◌≡◌ {A = ℕ} 0 1 = cc in omega arith
