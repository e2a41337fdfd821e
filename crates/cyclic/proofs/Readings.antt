-- A syndrome points at one place at most, and each of the two rules of reading gives one answer for every word.
use Rattle.std.proofs.Common.{◌≡◌, ℕ, zero, suc, ◌^◌, ◌<◌, ◌⊎◌, Some, None, Option, sym, refl, ap, ◌∙◌, ap₂, inl, inr, arith, pow_pos}
use lib.Bits.{bit_xor, xor_self, xor_lt}
use lib.Pow.{pow-lt}
use Rattle.std.proofs.lemmas.Bool.{cases_eq, cases_lt, cases_order}
use Rattle.cyclic.specs.Polynomials.{rem}
use Rattle.cyclic.specs.Words.{message, syndrome, parity, corrected, Points, PlainRule, SuspectRule}
use Rattle.cyclic.specs.Laws.{AtMostOnePlace, OneReading, OneReadingByEachRule}
use Rattle.cyclic.proofs.Linear.{xor_none, rem-xor}
use Rattle.cyclic.proofs.Distance.{distance}
use Rattle.cyclic.proofs.Changes.{ones_both, ones_pow}

-- ---- one place

pow_same : (p q : ℕ) → 2 ^ p ≡ 2 ^ q → p ≡ q
pow_same p q e = elim (cases_order p q) [
  | inl s ↦ s
  | inr (inl l) ↦ absurd (omega (arith, e, pow-lt l))
  | inr (inr g) ↦ absurd (omega (arith, e, pow-lt g))
]

pub points_once : (s p q : ℕ) → Points s p → Points s q → p ≡ q
points_once s p q (lp, ep) (lq, eq) =
    let u = ones_both (2 ^ p) (2 ^ q) in
    let v = ones_pow p in
    let t = ones_pow q in
    pow_same p q
    (xor_none (2 ^ p) (2 ^ q)
    (distance (bit_xor (2 ^ p) (2 ^ q)) (xor_lt 28 (2 ^ p) (2 ^ q) (pow-lt lp) (pow-lt lq)) (omega arith)
    (rem-xor (2 ^ p) (2 ^ q) ∙ ap₂ bit_xor ep eq ∙ xor_self s)))

pub points_not_zero : (p : ℕ) → Points 0 p → ⊥
points_not_zero p (l, e) =
    let v = ones_pow p in
    let z = distance (2 ^ p) (pow-lt l) (omega arith) e in
    absurd (omega (arith, z, pow_pos p))

pub at_most_one_place : AtMostOnePlace
at_most_one_place = record { one = points_once; zero = points_not_zero }

-- ---- whether a syndrome points at a place

pub points_or_none : (s n : ℕ) → ((p : ℕ) × (p < n) × (rem (2 ^ p) ≡ s)) ⊎ ((p : ℕ) → p < n → rem (2 ^ p) ≡ s → ⊥)
points_or_none s zero = inr (λ p l e. absurd (omega arith))
points_or_none s (suc n) = elim (points_or_none s n) [
  | inl (p, l, e) ↦ inl (p, omega arith, e)
  | inr none ↦ elim (cases_eq (rem (2 ^ n)) s) [
    | inl e ↦ inl (n, omega arith, e)
    | inr ne ↦ inr (λ p l e. elim (cases_lt p n) [
      | inl k ↦ none p k e
      | inr g ↦ let same : p ≡ n = omega arith in ne (ap (λ (k : ℕ). rem (2 ^ k)) (sym same) ∙ e)
    ])
  ]
]

-- ---- the plain rule

plain_some : (w : ℕ) → (r : Option ℕ) × PlainRule w r
plain_some w = elim (cases_eq (syndrome w) 0) [ inl z ↦ (Some (message w), (z, refl)) | inr n ↦ (None, n) ]

plain_only : (w : ℕ) (r r' : Option ℕ) → PlainRule w r → PlainRule w r' → r ≡ r'
plain_only w (Some a) (Some b) (z, e) (y, d) = ap Some (e ∙ sym d)
plain_only w (Some a) None (z, e) n = absurd (n z)
plain_only w None (Some b) n (y, d) = absurd (n y)
plain_only w None None n m = refl

pub plain_reading : OneReading PlainRule
plain_reading = record { some = plain_some; only = plain_only }

-- ---- the suspect rule

suspect_some : (w : ℕ) → (r : Option ℕ) × SuspectRule w r
suspect_some w = elim (cases_eq (syndrome w) 0) [
  | inl z ↦ (Some (message w), inl (z, refl))
  | inr n ↦ elim (cases_eq (parity w) 1) [
    | inl o ↦ elim (points_or_none (syndrome w) 28) [
      | inl (p, l, e) ↦ (Some (message (corrected w p)), inr (p, (o, (l, e)), refl))
      | inr none ↦ (None, (n, λ p c. none p c.1.0 c.1.1))
    ]
    | inr even ↦ (None, (n, λ p c. even c.0))
  ]
]

-- the syndrome 0 points at no place
not_both : (s p : ℕ) → s ≡ 0 → Points s p → ⊥
not_both s p z (l, e) = points_not_zero p (l, e ∙ z)

suspect_only : (w : ℕ) (r r' : Option ℕ) → SuspectRule w r → SuspectRule w r' → r ≡ r'
suspect_only w (Some a) (Some b) (inl (z, e)) (inl (y, d)) = ap Some (e ∙ sym d)
suspect_only w (Some a) (Some b) (inl (z, e)) (inr (p, (o, at), d)) = absurd (not_both (syndrome w) p z at)
suspect_only w (Some a) (Some b) (inr (p, (o, at), e)) (inl (y, d)) = absurd (not_both (syndrome w) p y at)
suspect_only w (Some a) (Some b) (inr (p, (o, at), e)) (inr (q, (u, there), d)) =
    ap Some (e ∙ ap (λ (k : ℕ). message (corrected w k)) (points_once (syndrome w) p q at there) ∙ sym d)
suspect_only w (Some a) None (inl (z, e)) (n, k) = absurd (n z)
suspect_only w (Some a) None (inr (p, (o, at), e)) (n, k) = absurd (k p (o, at))
suspect_only w None (Some b) (n, k) (inl (y, d)) = absurd (n y)
suspect_only w None (Some b) (n, k) (inr (p, (o, at), d)) = absurd (k p (o, at))
suspect_only w None None h g = refl

pub suspect_reading : OneReading SuspectRule
suspect_reading = record { some = suspect_some; only = suspect_only }

pub one_reading_by_each_rule : OneReadingByEachRule
one_reading_by_each_rule = (plain_reading, suspect_reading)
