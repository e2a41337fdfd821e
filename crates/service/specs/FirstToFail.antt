-- Items that are tested in their order, as the subframes of a frame, or its LSPs: which one a refusal names. Item i + 1
-- stands at index i.
use Rattle.std.specs.Prelude.{◌≡◌, ℕ, ◌+◌, ◌<◌, Bool, true, false}
use Rattle.service.specs.Refusals.{Answer, refused_at}

-- each of so many items passes
abbrev pub AllPass : ℕ → (ℕ → Bool) → Type 0
AllPass items passes = (i : ℕ) → i < items → passes i ≡ true

-- of so many items, the one at index i is the first that does not pass
pub record FirstToFail (items : ℕ) (passes : ℕ → Bool) (i : ℕ) : Type 0 where
  pub within : i < items
  pub fails : passes i ≡ false
  pub before : (k : ℕ) → k < i → passes k ≡ true

-- a refusal of this number, which names the first item that does not pass
abbrev pub RefusedAtFirst : ℕ → ℕ → (ℕ → Bool) → Answer → Type 0
RefusedAtFirst number items passes answer =
    (i : ℕ) × FirstToFail items passes i × (answer ≡ refused_at number (i + 1))
