-- Searches below a bound.
use Rattle.std.proofs.Common.{◌≡◌, ℕ, zero, suc, ◌<◌, ◌≤◌, ◌⊎◌, inl, inr, subst, arith}
use Rattle.std.proofs.lemmas.Bool.{cases_lt}

-- it is known of each number whether it passes
module _ (P : ℕ → Type 0) (known : (k : ℕ) → P k ⊎ (P k → ⊥)) (low : ℕ) where
  -- all numbers from low to below n pass, or there is a first that does not
  pub all_or_first : (n : ℕ) → ((k : ℕ) → low ≤ k → k < n → P k) ⊎ ((i : ℕ) × (low ≤ i) × (i < n) × ((k : ℕ) → low ≤ k → k < i → P k) × (P i → ⊥))
  all_or_first zero = inl (λ k l h. absurd (omega arith))
  all_or_first (suc n) = elim (all_or_first n) [
    | inr (i, l, h, before, fails) ↦ inr (i, l, omega arith, before, fails)
    | inl all ↦ elim (cases_lt n low) [
      | inl under ↦ inl (λ k l h. absurd (omega arith))
      | inr from ↦ elim (known n) [
        | inl passes ↦ inl (λ k l h. elim (cases_lt k n) [ inl less ↦ all k l less | inr past ↦ let same : n ≡ k = omega arith in subst P same passes ])
        | inr fails ↦ inr (n, from, omega arith, all, fails)
      ]
    ]
  ]

-- two that are the first not to pass are one
pub first_once : (P : ℕ → Type 0) (low i j : ℕ) → low ≤ i → low ≤ j → ((k : ℕ) → low ≤ k → k < i → P k) → (P i → ⊥) → ((k : ℕ) → low ≤ k → k < j → P k) → (P j → ⊥) → i ≡ j
first_once P low i j li lj before fails before' fails' =
    elim (cases_lt i j) [
      | inl l ↦ absurd (fails (before' i li l))
      | inr p ↦ elim (cases_lt j i) [ inl l ↦ absurd (fails' (before j lj l)) | inr q ↦ omega arith ]
    ]
