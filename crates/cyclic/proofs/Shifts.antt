-- Whether a number of 32 bits has one from bit n up, as `unbounded_shr` by n tells.
use Rattle.std.proofs.Common.{◌≡◌, ℕ, ◌/◌, ◌^◌, ◌<◌, ◌≤◌, ◌≢◌, if◌then◌else◌, nat_lt, inl, inr, arith, pow_pos, pow_mono}
use native.Mathlib.Nat.{div-eq_of_lt, lt-div-mul-add}
use Rattle.std.proofs.lemmas.Bool.{cases_lt}

pub fits : (n b : ℕ) → b < 2 ^ 32 → (if nat_lt n 32 then b / 2 ^ n else 0) ≡ 0 → b < 2 ^ n
fits n b l e = elim (cases_lt n 32) [ inl k ↦ grind (arith, pow_pos n, lt-div-mul-add) | inr k ↦ grind (arith, pow_mono k) ]

pub fits_not : (n b : ℕ) → (if nat_lt n 32 then b / 2 ^ n else 0) ≢ 0 → 2 ^ n ≤ b
fits_not n b e = grind (arith, div-eq_of_lt)
