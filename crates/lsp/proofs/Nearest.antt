-- No code has a value nearer to an offset than the offset's own code.
use Rattle.std.proofs.Common.{◌≡◌, ℕ, suc, ◌+◌, ◌*◌, ◌<◌, ◌≤◌, true, ltb, ℤ, pos, negsuc, ◌+ℤ◌, ◌-ℤ◌, ◌*ℤ◌, nat_abs, ◌≤ℤ◌, ◌<ℤ◌, refl, ap, ◌∙◌, subst, inl, inr, mul-le-mul_right, mul_assoc, suc-mul, mul_comm, one-mul, zero-mul, arith}
use Rattle.std.specs.Int.{int_max, int_min}
use Rattle.std.proofs.lemmas.Int.{ints, clamps}
use Rattle.std.proofs.lemmas.Bool.{cases_lt, ltb-true}
use Rattle.service.specs.declared.rates.Rate.{Rate}
use Rattle.service.specs.declared.rates.Rate.TheVariants.{Full, Half, Quarter, Eighth}
use Rattle.service.proofs.Computed.{all_below, all_at}
use Rattle.lsp.specs.Quantizers.{top_code, half_step, unlimited_code, code_of}
use Rattle.lsp.specs.Laws.{NearestCode}
use Rattle.lsp.proofs.Decays.{floored}
use Rattle.lsp.proofs.Sizes.{distrib_minus}

step_tested : (rate : Rate) → all_below (λ i. ltb 0 (half_step rate i)) 10 ≡ true
step_tested Full = refl
step_tested Half = refl
step_tested Quarter = refl
step_tested Eighth = refl

step_least : (rate : Rate) (i : ℕ) → i < 10 → 0 < half_step rate i
step_least rate i lt = ltb-true 0 (half_step rate i) (all_at (λ k. ltb 0 (half_step rate k)) 10 i (step_tested rate) lt)

-- the value of a code as a difference of products
value_is : (c t h : ℕ) → (pos (2 * c) -ℤ pos t) *ℤ pos h ≡ pos (2 * (c * h)) -ℤ pos (t * h)
value_is c t h = distrib_minus (2 * c) t h ∙ ap (λ (n : ℕ). pos n -ℤ pos (t * h)) (mul_assoc 2 c h)

-- the value of the next code is two half steps higher
next : (c d h : ℕ) → c < d → c * h + h ≤ d * h
next c d h lt = subst (λ (n : ℕ). n ≤ d * h) (suc-mul c h) (mul-le-mul_right h lt)

-- M × h added to all: the value of the code k is no farther from x than that of the code c
abbrev Nearer : ℕ → ℤ → ℕ → ℕ → Type 0
Nearer h x k c = nat_abs (x -ℤ pos (2 * (k * h))) ≤ nat_abs (x -ℤ pos (2 * (c * h)))

inside : (h : ℕ) (x : ℤ) (n c : ℕ) → (pos (2 * (n * h)) ≤ℤ (x +ℤ pos h)) → ((x +ℤ pos h) <ℤ pos (2 * (n * h) + 2 * h)) → Nearer h x n c
inside h x n c low high = elim (cases_lt c n) [
  | inl l ↦ omega (arith, ints, next c n h l)
  | inr g ↦ elim (cases_lt n c) [
    | inl l ↦ omega (arith, ints, next n c h l)
    | inr g' ↦ let e : n ≡ c = omega arith in subst (Nearer h x n) e (omega arith)
  ]
]

above : (h : ℕ) (x : ℤ) (n t c : ℕ) → t < n → c ≤ t → (pos (2 * (n * h)) ≤ℤ (x +ℤ pos h)) → Nearer h x t c
above h x n t c lt le low = omega (arith, ints, next t n h lt, mul-le-mul_right h le)

below : (h : ℕ) (x : ℤ) (c : ℕ) → ((x +ℤ pos h) <ℤ pos h) → Nearer h x 0 c
below h x c high = omega (arith, ints, zero-mul h)

from_step : (h t : ℕ) (x : ℤ) (c : ℕ) → c ≤ t → (q : ℤ) → ((pos (2 * h) *ℤ q) ≤ℤ (x +ℤ pos h)) → ((x +ℤ pos h) <ℤ (pos (2 * h) *ℤ q +ℤ pos (2 * h))) → Nearer h x (nat_abs (int_max (pos 0) (int_min q (pos t)))) c
from_step h t x c le (pos n) low high =
    let p : 2 * h * n ≡ 2 * (n * h) = mul_assoc 2 h n ∙ ap (λ (k : ℕ). 2 * k) (mul_comm h n) in
    let low' : pos (2 * (n * h)) ≤ℤ (x +ℤ pos h) = omega (arith, ints) in
    let high' : (x +ℤ pos h) <ℤ pos (2 * (n * h) + 2 * h) = omega (arith, ints) in
    elim (cases_lt t n) [
      | inl l ↦
          let k : t ≡ nat_abs (int_max (pos 0) (int_min (pos n) (pos t))) = omega (arith, ints, clamps) in
          subst (λ (m : ℕ). Nearer h x m c) k (above h x n t c l le low')
      | inr g ↦
          let k : n ≡ nat_abs (int_max (pos 0) (int_min (pos n) (pos t))) = omega (arith, ints, clamps) in
          subst (λ (m : ℕ). Nearer h x m c) k (inside h x n c low' high')
    ]
from_step h t x c le (negsuc n) low high =
    let one : 1 ≤ suc n = omega arith in
    let p = simp one-mul at (mul-le-mul_right (2 * h) one) in
    below h x c (omega (arith, ints))

shifted : (w : ℤ) (k c p : ℕ) → nat_abs (w +ℤ pos p -ℤ pos k) ≤ nat_abs (w +ℤ pos p -ℤ pos c) → nat_abs (w -ℤ (pos k -ℤ pos p)) ≤ nat_abs (w -ℤ (pos c -ℤ pos p))
shifted w k c p h = omega (arith, ints)

pub nearest_code : NearestCode
nearest_code rate i lt w c le =
    let h = half_step rate i in
    let t = top_code rate in
    let x = w +ℤ pos (t * h) in
    let f = floored (x +ℤ pos h) (2 * h) (omega (arith, step_least rate i lt)) in
    let n = from_step h t x c le (unlimited_code rate i w) f.0 f.1 in
    rw (value_is (code_of rate i w) t h, value_is c t h) (shifted w (2 * (code_of rate i w * h)) (2 * (c * h)) (t * h) n)
