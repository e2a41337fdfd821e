-- What the numbers name, as one statement.
use Rattle.std.specs.Prelude.{◌≡◌, ℕ, ◌≤◌, false, ◌&&◌, is_some, nat_lt}
use Rattle.service.specs.declared.rates.Rate.{Rate}
use Rattle.service.specs.declared.categories.Category.{Category}
use Rattle.service.specs.declared.refusals.Fault.{Fault}
use Rattle.service.specs.declared.refusals.Refusal.{Refusal}
use Rattle.service.specs.declared.readings.Letter.{Letter}
use Rattle.service.specs.declared.readings.RunEnd.{RunEnd}
use Rattle.service.specs.Rates.{rate_is}
use Rattle.service.specs.Categories.{category_is, category_of}
use Rattle.service.specs.Letters.{letter_is, run_end_is}
use Rattle.service.specs.Refusals.{fault_is, refusal_is}
use Rattle.service.specs.Tests.{unknown_category}

pub record DistinctNumbers : Type 0 where
  -- no two rates and no two categories have one number
  pub rates : (a b : Rate) → (rate_is a).number ≡ (rate_is b).number → a ≡ b
  pub categories : (a b : Category) → (category_is a).number ≡ (category_is b).number → a ≡ b
  -- each category is the one that its number stands for, and passes the test of the number
  pub numbered :
      (c : Category) → (category_of (category_is c).number ≡ c) × (unknown_category (category_is c).number ≡ false)
  -- each number that passes the test is that of its category
  pub named : (n : ℕ) → unknown_category n ≡ false → (category_is (category_of n)).number ≡ n
  -- no two letters are printed by one byte, and no two ends of a run have one number
  pub letters : (a b : Letter) → (letter_is a).byte ≡ (letter_is b).byte → a ≡ b
  pub run_ends : (a b : RunEnd) → run_end_is a ≡ run_end_is b → a ≡ b
  -- no two refusals, and so no two faults, have one number and one place
  pub refusals : (a b : Refusal) → refusal_is a ≡ refusal_is b → a ≡ b
  pub faults_apart : (a b : Fault) → fault_is a ≡ fault_is b → a ≡ b
  -- each number from 1 to 18 has a refusal, and each refusal has such a number
  pub every : (n : ℕ) → 1 ≤ n → n ≤ 18 → (r : Refusal) × ((refusal_is r).number ≡ n)
  pub only : (r : Refusal) → (1 ≤ (refusal_is r).number) × ((refusal_is r).number ≤ 18)
  -- the numbers 5 to 12 carry a place, and no others do
  pub places :
      (r : Refusal) → is_some (refusal_is r).place ≡ (nat_lt 4 (refusal_is r).number && nat_lt (refusal_is r).number 13)
  -- a fault has a number from 1 to 9
  pub faults : (f : Fault) → (1 ≤ (fault_is f).number) × ((fault_is f).number ≤ 9)
