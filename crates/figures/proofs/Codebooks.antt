-- The law of the codebook parameter: what can be computed of all codes, and from it each way.
use Rattle.std.proofs.Common.{◌≡◌, ℕ, ◌+◌, ◌%◌, ◌<◌, Bool, true, ltb, ◌&&◌, Some, None, Option, is_some, unwrap_or, get_or, length, ℤ, pos, nat_eq, sym, inl, inr, refl, ap, ◌∙◌, subst, arith}
use Rattle.std.specs.Ordering.{int_eq}
use Rattle.std.proofs.lemmas.Bool.{false≢true, and_parts, cases_lt, eqb-true, ltb-true}
use Rattle.std.proofs.lemmas.Bool.Decides.{nat_tests, Decides-int_eq}
use Rattle.std.proofs.lemmas.List.Quantifiers.{position-Some}
use Rattle.service.specs.declared.rates.Rate.{Rate}
use Rattle.service.specs.declared.rates.Rate.TheVariants.{Full, Half, Quarter, Eighth}
use Rattle.service.proofs.Computed.{all_below, all_at}
use Rattle.figures.specs.declared.codebook.CodebookFigure.{CodebookFigure}
use Rattle.figures.specs.declared.codebook.CodebookParameter.{CodebookParameter}
use Rattle.figures.specs.declared.codebook.Sign.{Sign}
use Rattle.figures.specs.declared.codebook.Sign.TheVariants.{Plus, Minus}
use Rattle.figures.specs.Codebook.{codebook_allowed, codebook_codes, figure_of_codes, increments, increment_of, increment_number, sends_index_and_sign, index_allowed, index_of, shifted, sign_of}
use Rattle.figures.specs.Laws.{CodebookCodesFit, CodebookDecoded, CodebookEncoded, CodebookRoundTrips, figure_of_parameter}

-- Three tests of a code, which are computed of all of them: its increment has its number, and the shift of the index leads
-- there and back, within the codebook.
abbrev number_again : Rate → ℕ → Bool
number_again rate g =
    let found = increment_number rate (increment_of rate g) in is_some found && nat_eq (unwrap_or found 0) (g % 4)

abbrev back_again : ℕ → Bool
back_again i = nat_eq (index_of Minus (shifted Minus i)) i

abbrev forth_again : ℕ → Bool
forth_again c = nat_eq (shifted Minus (index_of Minus c)) c && ltb (index_of Minus c) 128

numbers_tested : (rate : Rate) → all_below (number_again rate) 8 ≡ true
unfolding increment_number
numbers_tested Full = refl
numbers_tested Half = refl
numbers_tested Quarter = refl
numbers_tested Eighth = refl

number_back : (rate : Rate) (g : ℕ) → g < 8 → (is_some (increment_number rate (increment_of rate g)) ≡ true) × (unwrap_or (increment_number rate (increment_of rate g)) 0 ≡ g % 4)
number_back rate g lt =
    let p = and_parts _ _ (all_at (number_again rate) 8 g (numbers_tested rate) lt) in (p.0, eqb-true _ _ p.1)

shifted_back : (i : ℕ) → i < 128 → index_of Minus (shifted Minus i) ≡ i
shifted_back i lt = eqb-true (index_of Minus (shifted Minus i)) i (all_at back_again 128 i refl lt)

shifted_forth : (c : ℕ) → c < 128 → (shifted Minus (index_of Minus c) ≡ c) × (index_of Minus c < 128)
shifted_forth c lt =
    let p = and_parts _ _ (all_at forth_again 128 c refl lt) in (eqb-true _ _ p.0, ltb-true _ _ p.1)

four : (rate : Rate) → length (increments rate) ≡ 4
four Full = refl
four Half = refl
four Quarter = refl
four Eighth = refl

-- an increment with a number is the one of that number
numbered : (rate : Rate) (z : ℤ) (n : ℕ) → increment_number rate z ≡ Some n → (n < 4) × (increment_of rate n ≡ z)
unfolding increment_number
numbered rate z n e =
    let p = position-Some (λ x. int_eq x z) (increments rate) n (pos 0) e in
    let small : n < 4 = subst (λ (k : ℕ). n < k) (four rate) p.0 in
    let m : n % 4 ≡ n = omega arith in
    (small, ap (λ (k : ℕ). get_or (increments rate) k (pos 0)) m ∙ (Decides-int_eq (get_or (increments rate) n (pos 0)) z).0 p.1)

-- a number that is there
has_number : (o : Option ℕ) → is_some o ≡ true → o ≡ Some (unwrap_or o 0)
has_number None h = absurd (false≢true h)
has_number (Some n) h = refl

-- what a number that an allowed increment has stands for, without the sign's 4 and with it
number_of : (rate : Rate) (z : ℤ) → is_some (increment_number rate z) ≡ true → let n = unwrap_or (increment_number rate z) 0 in (n < 4) × (increment_of rate n ≡ z) × (increment_of rate (n + 4) ≡ z)
number_of rate z h =
    let n = unwrap_or (increment_number rate z) 0 in
    let p = numbered rate z n (has_number (increment_number rate z) h) in
    let m : (n + 4) % 4 ≡ n % 4 = omega arith in
    (p.0, p.1, ap (λ (k : ℕ). get_or (increments rate) k (pos 0)) m ∙ p.1)

abbrev parameter : Sign → ℕ → ℤ → CodebookParameter
parameter s i z = record { sign = s; index = i; increment = z }

-- codes that fit 7 bits and 3 bits, at a rate with an index
indexed_fit : (rate : Rate) → sends_index_and_sign rate ≡ true → (c g : ℕ) → c < 128 → g < 8 → CodebookCodesFit rate c g
indexed_fit Full x c g lt lt' = record { cbindex_bits = lt; cbgain_bits = lt' }
indexed_fit Half x c g lt lt' = record { cbindex_bits = lt; cbgain_bits = lt' }
indexed_fit Quarter x c g lt lt' = record { cbindex_bits = lt; cbgain_bits = lt' }
indexed_fit Eighth x c g lt lt' = absurd (false≢true x)

-- an allowed parameter at a rate with an index
decoded_indexed : (rate : Rate) → sends_index_and_sign rate ≡ true → (s : Sign) (i : ℕ) (z : ℤ) → codebook_allowed rate (parameter s i z) ≡ true → CodebookDecoded rate (parameter s i z)
unfolding codebook_allowed codebook_codes figure_of_codes
decoded_indexed rate x Plus i z h =
    let a = and_parts (index_allowed rate i) (is_some (increment_number rate z)) h in
    let n = number_of rate z a.1 in
    let c : (codebook_codes rate (parameter Plus i z)).0 < 128 = grind (arith, nat_tests, a.0, x) in
    let g : (codebook_codes rate (parameter Plus i z)).1 < 8 = grind (arith, n.0, x) in
    record { fit = indexed_fit rate x _ _ c g; same = grind (arith, nat_tests, a.0, n.0, n.1, x) }
decoded_indexed rate x Minus i z h =
    let a = and_parts (sends_index_and_sign rate && index_allowed rate i) (is_some (increment_number rate z)) h in
    let b = (and_parts (sends_index_and_sign rate) (index_allowed rate i) a.0).1 in
    let n = number_of rate z a.1 in
    let s = shifted_back i (grind (arith, nat_tests, b, x)) in
    let c : (codebook_codes rate (parameter Minus i z)).0 < 128 = grind (arith, nat_tests, b, x) in
    let g : (codebook_codes rate (parameter Minus i z)).1 < 8 = grind (arith, n.0, x) in
    record { fit = indexed_fit rate x _ _ c g; same = grind (arith, nat_tests, n.0, n.2, s, x) }

pub decoded : (rate : Rate) (s : Sign) (i : ℕ) (z : ℤ) → codebook_allowed rate (parameter s i z) ≡ true → CodebookDecoded rate (parameter s i z)
unfolding codebook_allowed codebook_codes figure_of_codes
decoded Full s i z h = decoded_indexed Full refl s i z h
decoded Half s i z h = decoded_indexed Half refl s i z h
decoded Quarter s i z h = decoded_indexed Quarter refl s i z h
decoded Eighth Plus i z h =
    let n = number_of Eighth z h in
    record { fit = record { cbindex_bits = grind arith; cbgain_bits = grind (arith, n.0) }; same = grind (arith, nat_tests, n.0, n.1) }
decoded Eighth Minus i z h = absurd (false≢true h)

-- codes that fit, at a rate with an index, and the parameter that they stand for
encoded_indexed : (rate : Rate) → sends_index_and_sign rate ≡ true → (c g : ℕ) → c < 128 → g < 8 → CodebookEncoded rate c g (parameter (sign_of rate g) (index_of (sign_of rate g) c) (increment_of rate g))
unfolding codebook_allowed codebook_codes figure_of_codes
encoded_indexed rate x c g lt lt' =
    let n = number_back rate g lt' in
    let f = shifted_forth c lt in
    elim (cases_lt g 4) [
      | inl l ↦
          let s : sign_of rate g ≡ Plus = grind (arith, nat_tests, x) in
          record { allowed = grind (arith, nat_tests, n.0, s, x); same = grind (arith, nat_tests, n.1, s, x) }
      | inr k ↦
          let s : sign_of rate g ≡ Minus = grind (arith, nat_tests, x) in
          record { allowed = grind (arith, nat_tests, n.0, s, x, f.1); same = grind (arith, nat_tests, n.1, s, x, f.0) }
    ]

-- no other parameter stands for them
same_parameter : (rate : Rate) → sends_index_and_sign rate ≡ true → (p : CodebookParameter) (c g : ℕ) → figure_of_parameter rate p ≡ figure_of_codes rate c g → p ≡ parameter (sign_of rate g) (index_of (sign_of rate g) c) (increment_of rate g)
unfolding figure_of_codes
same_parameter rate x p c g e = grind (arith, e, x)

encoded_from : (rate : Rate) → sends_index_and_sign rate ≡ true → (c g : ℕ) → c < 128 → g < 8 → (p : CodebookParameter) → figure_of_parameter rate p ≡ figure_of_codes rate c g → CodebookEncoded rate c g p
encoded_from rate x c g lt lt' p e =
    subst (CodebookEncoded rate c g) (sym (same_parameter rate x p c g e)) (encoded_indexed rate x c g lt lt')

encoded : (rate : Rate) (cbindex cbgain : ℕ) → CodebookCodesFit rate cbindex cbgain → (p : CodebookParameter) → figure_of_parameter rate p ≡ figure_of_codes rate cbindex cbgain → CodebookEncoded rate cbindex cbgain p
unfolding codebook_allowed codebook_codes figure_of_codes
encoded Full c g fit p e = encoded_from Full refl c g fit.cbindex_bits fit.cbgain_bits p e
encoded Half c g fit p e = encoded_from Half refl c g fit.cbindex_bits fit.cbgain_bits p e
encoded Quarter c g fit p e = encoded_from Quarter refl c g fit.cbindex_bits fit.cbgain_bits p e
encoded Eighth c g fit p e =
    let none : c < 1 = fit.cbindex_bits in
    let lt : g < 4 = fit.cbgain_bits in
    let n = number_back Eighth g (omega arith) in
    let s = ap (λ (f : CodebookFigure). f.sign) e in
    let z = ap (λ (f : CodebookFigure). f.increment) e in
    record { allowed = grind (arith, nat_tests, n.0, s, z); same = grind (arith, nat_tests, n.1, s, z) }

pub round_trips : CodebookRoundTrips
round_trips = record { decoded = λ rate p h. decoded rate p.sign p.index p.increment h; encoded = encoded }
