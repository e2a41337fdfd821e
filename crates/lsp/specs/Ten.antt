-- Ten values, one for each LSP. LSP i + 1 stands at index i, everywhere.
use Rattle.std.specs.Prelude.{ℕ, List, [], ◌∷◌}

unfoldable pub ten : {A : Type 0} → (ℕ → A) → List A
ten f = f 0 ∷ f 1 ∷ f 2 ∷ f 3 ∷ f 4 ∷ f 5 ∷ f 6 ∷ f 7 ∷ f 8 ∷ f 9 ∷ []
