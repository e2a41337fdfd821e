-- A test of numbers that is computed up to a bound, and what it says of each.
use Rattle.std.proofs.Common.{◌≡◌, ℕ, zero, suc, ◌<◌, Bool, true, ◌&&◌, sym, subst, ⊎_elim, arith}
use Rattle.std.proofs.lemmas.Bool.{and_parts, cases_eq}

-- a test that passes at each number below n
abbrev pub all_below : (ℕ → Bool) → ℕ → Bool
all_below f zero = true
all_below f (suc n) = f n && all_below f n

pub all_at : (f : ℕ → Bool) (n k : ℕ) → all_below f n ≡ true → k < n → f k ≡ true
all_at f zero k h lt = absurd (omega arith)
all_at f (suc n) k h lt =
    let both = and_parts (f n) (all_below f n) h in
    ⊎_elim (λ e. subst (λ i. f i ≡ true) (sym e) both.0) (λ ne. all_at f n k both.1 (omega arith)) (cases_eq k n)
