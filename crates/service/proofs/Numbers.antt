-- What each number stands for, and that it stands for nothing else.
use Rattle.std.proofs.Common.{◌≡◌, ℕ, zero, suc, ◌-◌, ◌<◌, ◌≤◌, Bool, false, eqb, [], ◌∷◌, get_or, unwrap_or, sym, refl, ap, ◌∙◌, arith, rules}
use Rattle.std.proofs.lemmas.Bool.{eqb-true}
use Rattle.std.proofs.lemmas.Bool.Decides.{nat_tests}
use Rattle.service.specs.declared.rates.Rate.{Rate}
use Rattle.service.specs.declared.rates.Rate.TheVariants as rate
use Rattle.service.specs.declared.categories.Category.{Category}
use Rattle.service.specs.declared.refusals.Fault.{Fault}
use Rattle.service.specs.declared.refusals.Fault.TheVariants.{Size, LengthField, RecordCount, Offsets, UnknownCategory, Length, Reserved, PastEnd, SpareBits}
use Rattle.service.specs.declared.refusals.Refusal.{Refusal}
use Rattle.service.specs.declared.refusals.Refusal.TheVariants.{Faulty, Frequency, Pitch, Codebook, Draws, LineFull, NoArrival, ShortBuffer, Codes, UnlawfulReel}
use Rattle.service.specs.declared.readings.Letter.{Letter}
use Rattle.service.specs.declared.readings.Letter.TheVariants.{C, P, S, D, B, E}
use Rattle.service.specs.declared.readings.RunEnd.{RunEnd}
use Rattle.service.specs.declared.readings.RunEnd.TheVariants.{Wanted, RowsFull, SupplyEmpty}
use Rattle.service.specs.Letters.{letter_is, run_end_is}
use Rattle.service.specs.Rates.{rate_is}
use Rattle.service.specs.Categories.{category_is, category_of}
use Rattle.service.specs.Refusals.{Answer, refused, fault_is, refusal_is}
use Rattle.service.specs.Distinct.{DistinctNumbers}
use Rattle.service.specs.Tests.{unknown_category}
use Rattle.service.proofs.Computed.{all_at}

abbrev rate_of : ℕ → Rate
rate_of n = get_or (rate.Eighth ∷ rate.Eighth ∷ rate.Quarter ∷ rate.Half ∷ rate.Full ∷ []) n rate.Eighth

-- the refusal of a number, at a place if it has one
abbrev refusal_of : Answer → Refusal
refusal_of a =
    let p = unwrap_or a.place 0 in
    get_or
    (UnlawfulReel
    ∷ Faulty Size
    ∷ Faulty LengthField
    ∷ Faulty RecordCount
    ∷ Faulty Offsets
    ∷ Faulty (UnknownCategory p)
    ∷ Faulty (Length p)
    ∷ Faulty (Reserved p)
    ∷ Faulty (PastEnd p)
    ∷ Faulty (SpareBits p)
    ∷ Frequency p
    ∷ Pitch p
    ∷ Codebook p
    ∷ Draws
    ∷ LineFull
    ∷ NoArrival
    ∷ ShortBuffer
    ∷ Codes
    ∷ UnlawfulReel
    ∷ [])
    a.number UnlawfulReel

-- the letter of a byte from 66 on, B, C, D, E and then P at 80 and S at 83
abbrev letter_of : ℕ → Letter
letter_of n = get_or (B ∷ C ∷ D ∷ E ∷ B ∷ B ∷ B ∷ B ∷ B ∷ B ∷ B ∷ B ∷ B ∷ B ∷ P ∷ B ∷ B ∷ S ∷ []) (n - 66) B

abbrev run_end_of : ℕ → RunEnd
run_end_of n = get_or (Wanted ∷ Wanted ∷ RowsFull ∷ SupplyEmpty ∷ []) n Wanted

pub category_of_number : (c : Category) → category_of (category_is c).number ≡ c
category_of_number c = search rules

refusal_of_fault : (f : Fault) → refusal_of (fault_is f) ≡ Faulty f
refusal_of_fault f = search rules

refusal_of_answer : (r : Refusal) → refusal_of (refusal_is r) ≡ r
refusal_of_answer r = search (rules, refusal_of_fault)

-- what has a left inverse takes no two values to one
apart : {A B : Type 0} (f : A → B) (g : B → A) → ((x : A) → g (f x) ≡ x) → (x y : A) → f x ≡ f y → x ≡ y
apart f g back x y e = sym (back x) ∙ ap g e ∙ back y

faults_apart : (a b : Fault) → fault_is a ≡ fault_is b → a ≡ b
faults_apart a b e =
    let same : Faulty a ≡ Faulty b = apart refusal_is refusal_of refusal_of_answer (Faulty a) (Faulty b) e in cc

-- the category of each number up to 6 has that number, by a test that is computed
abbrev category_right : ℕ → Bool
category_right n = eqb (category_is (category_of n)).number n

named_category : (n : ℕ) → unknown_category n ≡ false → (category_is (category_of n)).number ≡ n
named_category n known =
    let low : n < 7 = grind (arith, nat_tests) in
    eqb-true (category_is (category_of n)).number n (all_at category_right 7 n refl low)

-- the refusal of each number has that number, by a test that is computed
abbrev numbered_right : ℕ → Bool
numbered_right m = eqb (refusal_is (refusal_of (refused (suc m)))).number (suc m)

every_number : (n : ℕ) → 1 ≤ n → n ≤ 18 → (r : Refusal) × ((refusal_is r).number ≡ n)
every_number zero low high = absurd (omega arith)
every_number (suc m) low high =
    (refusal_of (refused (suc m)), eqb-true (refusal_is (refusal_of (refused (suc m)))).number (suc m) (all_at numbered_right 18 m refl (omega arith)))

pub distinct_numbers : DistinctNumbers
distinct_numbers = record {
  rates = apart (λ r. (rate_is r).number) rate_of (λ r. search rules);
  categories = apart (λ c. (category_is c).number) category_of category_of_number;
  numbered = λ c. (category_of_number c, search rules);
  named = named_category;
  letters = apart (λ l. (letter_is l).byte) letter_of (λ l. search rules);
  run_ends = apart run_end_is run_end_of (λ e. search rules);
  refusals = apart refusal_is refusal_of refusal_of_answer;
  faults_apart = faults_apart;
  every = every_number;
  only = λ r. search rules;
  places = λ r. search rules;
  faults = λ f. search rules;
}
