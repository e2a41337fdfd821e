-- What is found of an answer that there is one of.
use Rattle.std.proofs.Common.{◌≡◌, ℕ, List, Option, Some, None, sym, subst, refl, inl, inr, ◌⊎◌}
use Rattle.vector_check.specs.Differences.{Finds, joined}

abbrev pub OneOf : (List ℕ → Type 0) → Type 0
OneOf Answers = (a b : List ℕ) → Answers a → Answers b → a ≡ b

-- a difference is found only where the expected text does not answer
pub differs : (Answers : List ℕ → Type 0) (asked expected text : List ℕ) → OneOf Answers → Finds Answers asked expected (Some text)
    → Answers expected → ⊥
differs Answers asked expected text one (answered, is, other, named) h = other (one answered expected is h)

-- the difference from a text that answers
pub finds_answer : (Answers : List ℕ → Type 0) (asked expected answered : List ℕ) (found : Option (List ℕ)) → Answers answered
    → Finds (λ text. text ≡ answered) asked expected found → Finds Answers asked expected found
finds_answer Answers asked expected answered None h e = subst Answers (sym e) h
finds_answer Answers asked expected answered (Some text) h (t, e, other, named) = (t, subst Answers (sym e) h, other, named)

pub both_none : (a b : Option (List ℕ)) → None ≡ joined a b → (a ≡ None) × (b ≡ None)
both_none None None e = (refl, refl)
both_none None (Some b) e = cc
both_none (Some a) None e = cc
both_none (Some a) (Some b) e = cc

pub both_some : (a b : Option (List ℕ)) (t : List ℕ) → Some t ≡ joined a b
    → ((s : List ℕ) × (a ≡ Some s)) ⊎ ((s : List ℕ) × (b ≡ Some s))
both_some None None t e = cc
both_some None (Some b) t e = inr (b, refl)
both_some (Some a) b t e = inl (a, refl)
