-- No word of 28 bits but 0, with at most four bits set, has remainder 0: by a test that antt computes over the 28 columns.
use Rattle.std.proofs.Common.{◌≡◌, ℕ, zero, suc, ◌*◌, ◌/◌, ◌%◌, ◌^◌, ◌<◌, ◌≤◌, Bool, true, not, ◌&&◌, eqb, ◌⊎◌, List, [], ◌∷◌, length, sym, refl, ap, ◌∙◌, ap₂, inl, inr, one-mul, pow-suc, zero-add, zero-mul, mul-one, arith}
use lib.Bits.{bit_xor, xor_assoc, xor_comm, xor_zero_r}
use lib.Count.{ones, ones_step}
use Rattle.std.proofs.lemmas.Nat.{zero_from_ones}
use Rattle.std.proofs.lemmas.Bool.{eq-eqb, and_parts, true≢false}
use Rattle.cyclic.specs.Polynomials.{reduced, shift_in, rem}
use Rattle.cyclic.proofs.Linear.{bit_cases, rem_step, shift_in-xor, reduced_low}

-- the remainders of n powers of x, the first of which is c
abbrev pub columns : ℕ → ℕ → List ℕ
columns zero c = []
columns (suc n) c = c ∷ columns n (shift_in c 0)

-- no sum of at most k of the columns is a
abbrev misses : List ℕ → ℕ → ℕ → Bool
misses [] k a = not (eqb a 0)
misses (c ∷ cs) zero a = not (eqb a 0)
misses (c ∷ cs) (suc k) a = misses cs (suc k) a && misses cs k (bit_xor a c)

-- no sum of at least one and at most k + 1 of the columns is 0
abbrev apart : List ℕ → ℕ → Bool
apart [] k = true
apart (c ∷ cs) k = apart cs k && misses cs k c

-- the computed test: some twenty-four thousand sums
far : apart (columns 28 1) 3 ≡ true
far = refl

-- ---- what the test says

-- the sum of the columns at the bits of w that are set, the lowest bit at the first column
abbrev summed : List ℕ → ℕ → ℕ
summed [] w = 0
summed (c ∷ cs) w = bit_xor (w % 2 * c) (summed cs (w / 2))

odd_or_even : (w : ℕ) → (w % 2 ≡ 0) ⊎ (w % 2 ≡ 1)
odd_or_even w = bit_cases (λ (t : ℕ). (t ≡ 0) ⊎ (t ≡ 1)) (inl refl) (inr refl) (w % 2) (omega arith)

summed_none : (cs : List ℕ) → summed cs 0 ≡ 0
summed_none [] = refl
summed_none (c ∷ cs) = ap₂ bit_xor (zero-mul c) (summed_none cs)

summed_even : (c : ℕ) (cs : List ℕ) (w : ℕ) → w % 2 ≡ 0 → summed (c ∷ cs) w ≡ summed cs (w / 2)
summed_even c cs w e = ap (λ (t : ℕ). bit_xor (t * c) (summed cs (w / 2))) e ∙ ap (λ (t : ℕ). bit_xor t (summed cs (w / 2))) (zero-mul c)

summed_odd : (c : ℕ) (cs : List ℕ) (w : ℕ) → w % 2 ≡ 1 → summed (c ∷ cs) w ≡ bit_xor c (summed cs (w / 2))
summed_odd c cs w e = ap (λ (t : ℕ). bit_xor (t * c) (summed cs (w / 2))) e ∙ ap (λ (t : ℕ). bit_xor t (summed cs (w / 2))) (one-mul c)

half_below : (n w : ℕ) → w < 2 ^ suc n → w / 2 < 2 ^ n
half_below n w h = let e = pow-suc 2 n in omega arith

not_zero : (a : ℕ) → not (eqb a 0) ≡ true → a ≡ 0 → ⊥
not_zero a t e = true≢false (sym t ∙ ap not (eq-eqb a 0 e))

misses_none : (cs : List ℕ) (k a w : ℕ) → misses cs k a ≡ true → w < 2 ^ length cs → ones w ≤ k → bit_xor a (summed cs w) ≡ 0 → ⊥
misses_none [] k a w t l o e = not_zero a t (sym (xor_zero_r a) ∙ e)
misses_none (c ∷ cs) zero a w t l o e =
    not_zero a t (sym (xor_zero_r a) ∙ ap (bit_xor a) (sym (ap (summed (c ∷ cs)) (zero_from_ones w (omega arith)) ∙ summed_none (c ∷ cs))) ∙ e)
misses_none (c ∷ cs) (suc k) a w t l o e =
    let p = and_parts (misses cs (suc k) a) (misses cs k (bit_xor a c)) t in
    let s = ones_step w in
    let h = half_below (length cs) w l in
    elim (odd_or_even w) [
      | inl z ↦ misses_none cs (suc k) a (w / 2) p.0 h (omega arith) (ap (bit_xor a) (sym (summed_even c cs w z)) ∙ e)
      | inr z ↦
          misses_none cs k (bit_xor a c) (w / 2) p.1 h (omega arith)
          (xor_assoc a c (summed cs (w / 2)) ∙ ap (bit_xor a) (sym (summed_odd c cs w z)) ∙ e)
    ]

apart_none : (cs : List ℕ) (k w : ℕ) → apart cs k ≡ true → w < 2 ^ length cs → ones w ≤ suc k → summed cs w ≡ 0 → w ≡ 0
apart_none [] k w t l o e = omega arith
apart_none (c ∷ cs) k w t l o e =
    let p = and_parts (apart cs k) (misses cs k c) t in
    let s = ones_step w in
    let h = half_below (length cs) w l in
    elim (odd_or_even w) [
      | inl z ↦ let y : w / 2 ≡ 0 = apart_none cs k (w / 2) p.0 h (omega arith) (sym (summed_even c cs w z) ∙ e) in omega arith
      | inr z ↦ absurd (misses_none cs k c (w / 2) p.1 h (omega arith) (sym (summed_odd c cs w z) ∙ e))
    ]

-- ---- a remainder is a sum of columns

times-shift_in : (t c : ℕ) → t < 2 → t * shift_in c 0 ≡ shift_in (t * c) 0
times-shift_in t c =
    bit_cases (λ (t : ℕ). t * shift_in c 0 ≡ shift_in (t * c) 0) (simp zero-mul) (simp one-mul) t

summed-shift_in : (n c w : ℕ) → summed (columns n (shift_in c 0)) w ≡ shift_in (summed (columns n c) w) 0
summed-shift_in zero c w = refl
summed-shift_in (suc n) c w =
    ap₂ bit_xor (times-shift_in (w % 2) c (omega arith)) (summed-shift_in n (shift_in c 0) (w / 2))
    ∙ sym (shift_in-xor (w % 2 * c) (summed (columns n (shift_in c 0)) (w / 2)) 0 0 (omega arith) (omega arith))

-- shifting in a bit is shifting in 0, and then adding the bit
shift_in_bit : (r b : ℕ) → b < 2 → shift_in r b ≡ bit_xor b (shift_in r 0)
shift_in_bit r b h =
    ap (λ (n : ℕ). shift_in n b) (sym (xor_zero_r r))
    ∙ shift_in-xor r 0 0 b (omega arith) h
    ∙ ap (bit_xor (shift_in r 0)) (ap reduced (zero-add b) ∙ reduced_low b (omega arith)) ∙ xor_comm (shift_in r 0) b

rem_summed : (n w : ℕ) → w < 2 ^ n → rem w ≡ summed (columns n 1) w
unfolding rem
rem_summed zero w h = let z : w ≡ 0 = omega arith in ap rem z
rem_summed (suc n) w h =
    rem_step w
    ∙ shift_in_bit (rem (w / 2)) (w % 2) (omega arith)
    ∙ ap₂ bit_xor (sym (mul-one (w % 2)))
    (ap (λ (r : ℕ). shift_in r 0) (rem_summed n (w / 2) (half_below n w h)) ∙ sym (summed-shift_in n 1 (w / 2)))

-- the least distance of the 28-bit code is at least 5
pub distance : (e : ℕ) → e < 2 ^ 28 → ones e ≤ 4 → rem e ≡ 0 → e ≡ 0
distance e h o z = apart_none (columns 28 1) 3 e far h o (sym (rem_summed 28 e h) ∙ z)
