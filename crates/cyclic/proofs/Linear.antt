-- The remainder by g is linear, and is the only remainder.
use Rattle.std.proofs.Common.{◌≡◌, ℕ, zero, suc, ◌+◌, ◌-◌, ◌*◌, ◌/◌, ◌%◌, ◌^◌, ◌<◌, ◌≤◌, Bool, true, false, cond, eqb, List, [], ◌∷◌, sym, refl, ap, ◌∙◌, subst, ap₂, inl, inr, le_refl, add-zero, zero-add, zero-mul, arith, lit<}
use native.Mathlib.Decide.{le_ind}
use native.Mathlib.Nat.{div-eq_of_lt}
use lib.Arith.{bin_ind, half_le}
use lib.Bits.{bit_and, bit_xor, and_mask, xor_assoc, xor_comm, xor_self, xor_zero_r, xor_shr, xor_mod, xor_block, xor_lt}
use Rattle.std.proofs.lemmas.Nat.{shr-shr}
use Rattle.std.proofs.lemmas.Bool.{cases_lt}
use Rattle.cyclic.specs.Polynomials.{generator, times_g, Remainder, UniqueRemainder, reduced, shift_in, rem_in, rem}

bit : (n : ℕ) → n % 2 < 2
bit n = omega arith

-- what holds of 0 and of 1 holds of a bit
pub bit_cases : (P : ℕ → Type 0) → P 0 → P 1 → (t : ℕ) → t < 2 → P t
bit_cases P p q zero h = p
bit_cases P p q (suc zero) h = q
bit_cases P p q (suc (suc t)) h = absurd (omega arith)

-- ---- exclusive-or

pub xor_twice : (a b : ℕ) → bit_xor (bit_xor a b) b ≡ a
xor_twice a b = xor_assoc a b b ∙ ap (bit_xor a) (xor_self b) ∙ xor_zero_r a

pub xor_back : (a b : ℕ) → bit_xor a (bit_xor a b) ≡ b
xor_back a b = sym (xor_assoc a a b) ∙ ap (λ (x : ℕ). bit_xor x b) (xor_self a)

-- equal numbers, since nothing differs
pub xor_none : (a b : ℕ) → bit_xor a b ≡ 0 → a ≡ b
xor_none a b e = sym (xor_twice a b) ∙ ap (λ (x : ℕ). bit_xor x b) e

pub swap : (a b c d : ℕ) → bit_xor (bit_xor a b) (bit_xor c d) ≡ bit_xor (bit_xor a c) (bit_xor b d)
swap a b c d =
    xor_assoc a b (bit_xor c d)
    ∙ ap (bit_xor a) (sym (xor_assoc b c d) ∙ ap (λ (x : ℕ). bit_xor x d) (xor_comm b c) ∙ xor_assoc c b d)
    ∙ sym (xor_assoc a c (bit_xor b d))

-- ---- one step is linear

scaled : (b c m : ℕ) → b < 2 → c < 2 → bit_xor b c * m ≡ bit_xor (b * m) (c * m)
scaled b c m p q =
    bit_cases (λ (b : ℕ). bit_xor b c * m ≡ bit_xor (b * m) (c * m)) (simp zero-mul)
    (bit_cases (λ (c : ℕ). bit_xor 1 c * m ≡ bit_xor (1 * m) (c * m)) (simp (zero-mul, xor_zero_r)) (simp (zero-mul, xor_self)) c q) b p

tenth : (x y : ℕ) → bit_xor x y / 1024 % 2 ≡ bit_xor (x / 1024 % 2) (y / 1024 % 2)
tenth x y = ap (λ (n : ℕ). n % 2) (xor_shr x y 10) ∙ xor_mod (x / 1024) (y / 1024) 1

pub reduced-xor : (x y : ℕ) → reduced (bit_xor x y) ≡ bit_xor (reduced x) (reduced y)
reduced-xor x y =
    ap (bit_xor (bit_xor x y)) (ap (λ (n : ℕ). n * generator) (tenth x y) ∙ scaled (x / 1024 % 2) (y / 1024 % 2) generator (bit (x / 1024)) (bit (y / 1024)))
    ∙ swap x y (x / 1024 % 2 * generator) (y / 1024 % 2 * generator)

pub shift_in-xor : (r s b c : ℕ) → b < 2 → c < 2 → shift_in (bit_xor r s) (bit_xor b c) ≡ bit_xor (shift_in r b) (shift_in s c)
shift_in-xor r s b c p q = ap reduced (sym (xor_block 1 r s b c p q)) ∙ reduced-xor (r * 2 + b) (s * 2 + c)

-- ---- the recursion

more : (d p : ℕ) → p ≤ d → rem_in (suc d) p ≡ rem_in d p
unfolding rem_in
more zero zero h = refl
more zero (suc p) h = absurd (omega arith)
more (suc d) zero h = refl
more (suc d) (suc p) h = ap (λ (r : ℕ). shift_in r (suc p % 2)) (more d (suc p / 2) (half_le h))

enough : (d p : ℕ) → p ≤ d → rem_in d p ≡ rem_in p p
enough d p h = le_ind (λ (m : ℕ). rem_in m p ≡ rem_in p p) refl (λ m k e. more m p k ∙ e) d h

pub rem_step : (p : ℕ) → rem p ≡ shift_in (rem (p / 2)) (p % 2)
unfolding rem
rem_step zero = refl
rem_step (suc p) = ap (λ (r : ℕ). shift_in r (suc p % 2)) (enough p (suc p / 2) (half_le (le_refl (suc p))))

pub rem-xor : (a b : ℕ) → rem (bit_xor a b) ≡ bit_xor (rem a) (rem b)
unfolding rem
rem-xor =
    bin_ind (λ (a : ℕ). (b : ℕ) → rem (bit_xor a b) ≡ bit_xor (rem a) (rem b)) (λ b. refl)
    (λ a ih b.
    rem_step (bit_xor a b)
    ∙ ap₂ shift_in (ap rem (xor_shr a b 1) ∙ ih (b / 2)) (xor_mod a b 1)
    ∙ shift_in-xor (rem (a / 2)) (rem (b / 2)) (a % 2) (b % 2) (bit a) (bit b)
    ∙ ap₂ bit_xor (sym (rem_step a)) (sym (rem_step b)))

-- a number of 32 bits has none from bit 32 up
pub rem_none : (w : ℕ) → w < 2 ^ 32 → rem (w / 2 ^ 32) ≡ 0
unfolding rem
rem_none w h = ap rem (div-eq_of_lt h)

bit_test : (t : ℕ) → t < 2 → cond (eqb t 1) 1 0 ≡ t
bit_test = bit_cases (λ (t : ℕ). cond (eqb t 1) 1 0 ≡ t) refl refl

-- one bit more of w, the lowest of those from i - 1 up
pub rem_down : (w i : ℕ) → 0 < i → shift_in (rem (w / 2 ^ i)) (cond (eqb (bit_and (w / 2 ^ (i - 1)) 1) 1) 1 0) ≡ rem (w / 2 ^ (i - 1))
rem_down w i h =
    let n = w / 2 ^ (i - 1) in
    let e : i - 1 + 1 ≡ i = omega arith in
    let b = and_mask n 1 in
    ap₂ shift_in (ap rem (sym (shr-shr w (i - 1) 1 ∙ ap (λ (k : ℕ). w / 2 ^ k) e))) (rw b (bit_test (n % 2) (bit n))) ∙ sym (rem_step n)

-- ---- the size of a remainder

pub reduced_low : (x : ℕ) → x < 1024 → reduced x ≡ x
reduced_low x h =
    let z : x / 1024 % 2 ≡ 0 = omega arith in
    ap (λ (t : ℕ). bit_xor x (t * generator)) z ∙ xor_zero_r x

pub reduced_high : (y : ℕ) → y < 1024 → reduced (1024 + y) ≡ bit_xor y 873
reduced_high y h =
    let z : (1024 + y) / 1024 % 2 ≡ 1 = omega arith in
    ap (λ (t : ℕ). bit_xor (1024 + y) (t * generator)) z ∙ xor_block 10 1 1 y 873 h (lit< tt)
    ∙ zero-add (bit_xor y 873)

pub reduced_is : (x : ℕ) → 1024 ≤ x → x < 2048 → reduced x ≡ bit_xor x generator
reduced_is x h k =
    let z : x / 1024 % 2 ≡ 1 = omega arith in
    ap (λ (t : ℕ). bit_xor x (t * generator)) z

pub reduced_lt : (x : ℕ) → x < 2048 → reduced x < 1024
reduced_lt x h = elim (cases_lt x 1024) [
  | inl l ↦ subst (λ (n : ℕ). n < 1024) (sym (reduced_low x l)) l
  | inr g ↦
      let e : 1024 + (x - 1024) ≡ x = omega arith in
      subst (λ (n : ℕ). reduced n < 1024) e
      (subst (λ (n : ℕ). n < 1024) (sym (reduced_high (x - 1024) (omega arith)))
      (xor_lt 10 (x - 1024) 873 (omega arith) (lit< tt)))
]

pub minus_generator_lt : (x : ℕ) → 1024 ≤ x → x < 2048 → bit_xor x generator < 1024
minus_generator_lt x h k = subst (λ n. n < 1024) (reduced_is x h k) (reduced_lt x k)

pub shift_in_lt : (r b : ℕ) → r < 1024 → b < 2 → shift_in r b < 1024
shift_in_lt r b h k = reduced_lt (r * 2 + b) (omega arith)

pub rem_lt : (p : ℕ) → rem p < 1024
unfolding rem
rem_lt =
    bin_ind (λ (p : ℕ). rem p < 1024) (lit< tt)
    (λ p ih. subst (λ (n : ℕ). n < 1024) (sym (rem_step p)) (shift_in_lt (rem (p / 2)) (p % 2) ih (bit p)))

-- a polynomial of a degree below 10 is its own remainder
pub rem_low : (p : ℕ) → p < 1024 → rem p ≡ p
unfolding rem
rem_low =
    bin_ind (λ (p : ℕ). p < 1024 → rem p ≡ p) (λ h. refl)
    (λ p ih h.
    let e : p / 2 * 2 + p % 2 ≡ p = omega arith in
    rem_step p ∙ ap (λ (r : ℕ). shift_in r (p % 2)) (ih (omega arith)) ∙ ap reduced e ∙ reduced_low p h)

-- ---- the remainder in the subject's words

pub rem-times_g : (q : List Bool) → rem (times_g q) ≡ 0
unfolding rem
rem-times_g [] = refl
rem-times_g (b ∷ q) =
    let m = times_g q in
    let half : m * 2 / 2 ≡ m = omega arith in
    let even : m * 2 % 2 ≡ 0 = omega arith in
    let double : rem (m * 2) ≡ 0 = rem_step (m * 2) ∙ ap₂ shift_in (ap rem half ∙ rem-times_g q) even in
    rem-xor (m * 2) (cond b generator 0)
    ∙ ap₂ bit_xor double (elim b as (λ v. rem (cond v generator 0) ≡ 0) [ true ↦ refl | false ↦ refl ])

pub only : (p r : ℕ) → Remainder p r → r ≡ rem p
only p r (h, (q, e)) =
    sym (ap rem e ∙ rem-xor (times_g q) r ∙ ap₂ bit_xor (rem-times_g q) (rem_low r h))

times_bit : (t : ℕ) → t < 2 → cond (eqb t 1) generator 0 ≡ t * generator
times_bit = bit_cases (λ (t : ℕ). cond (eqb t 1) generator 0 ≡ t * generator) refl refl

pub rem_is : (p : ℕ) → (q : List Bool) × (p ≡ bit_xor (times_g q) (rem p))
unfolding rem
rem_is =
    bin_ind (λ (p : ℕ). (q : List Bool) × (p ≡ bit_xor (times_g q) (rem p))) ([], refl)
    (λ p ih.
    let q = ih.0 in
    let m = times_g q in
    let x = rem (p / 2) * 2 + p % 2 in
    let t = x / 1024 % 2 in
    let e : p ≡ p / 2 * 2 + p % 2 = omega arith in (
      eqb t 1 ∷ q,
      e ∙ ap (λ (n : ℕ). n * 2 + p % 2) ih.1
          ∙ sym (xor_block 1 m (rem (p / 2)) 0 (p % 2) (lit< tt) (bit p))
          ∙ ap (λ (n : ℕ). bit_xor n x) (add-zero (m * 2))
          ∙ sym (xor_zero_r (bit_xor (m * 2) x))
          ∙ ap (bit_xor (bit_xor (m * 2) x)) (sym (xor_self (t * generator)))
          ∙ swap (m * 2) x (t * generator) (t * generator)
          ∙ ap₂ bit_xor (ap (bit_xor (m * 2)) (sym (times_bit t (bit (x / 1024))))) (sym (rem_step p)),
    ))

pub remainder : (p : ℕ) → Remainder p (rem p)
remainder p = (rem_lt p, rem_is p)

pub unique_remainder : UniqueRemainder
unique_remainder p = (remainder p, only p)
