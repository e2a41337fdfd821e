-- What holds of one thing at most.
use Rattle.std.proofs.Common.{◌≡◌, ◌⊎◌, inl, inr, sym, ◌∙◌}

abbrev pub Once : {X : Type 0} → (X → Type 0) → Type 0
Once {X} A = (x y : X) → A x → A y → x ≡ y

pub leaf_once : {X : Type 0} (P : Type 0) (a : X) → Once (λ x. P × (x ≡ a))
leaf_once P a x y (_, e) (_, d) = e ∙ sym d

-- a test fails, or it is passed and the rest decides
pub guard_once : {X : Type 0} (A : X → Type 0) (G : Type 0) (B : X → Type 0) → ((x : X) → A x → G → ⊥) → Once A → Once B → Once (λ x. A x ⊎ (G × B x))
guard_once A G B apart once-a once-b x y (inl a) (inl a') = once-a x y a a'
guard_once A G B apart once-a once-b x y (inl a) (inr (g, b)) = absurd (apart x a g)
guard_once A G B apart once-a once-b x y (inr (g, b)) (inl a) = absurd (apart y a g)
guard_once A G B apart once-a once-b x y (inr (g, b)) (inr (g', b')) = once-b x y b b'

-- one of two that exclude each other
pub either_once : {X : Type 0} (A B : X → Type 0) → ((x y : X) → A x → B y → ⊥) → Once A → Once B → Once (λ x. A x ⊎ B x)
either_once A B apart once-a once-b x y (inl a) (inl a') = once-a x y a a'
either_once A B apart once-a once-b x y (inl a) (inr b) = absurd (apart x y a b)
either_once A B apart once-a once-b x y (inr b) (inl a) = absurd (apart y x a b)
either_once A B apart once-a once-b x y (inr b) (inr b') = once-b x y b b'
