-- The frames of a list by their numbers.
use Rattle.std.proofs.Common.{◌≡◌, ℕ, zero, suc, ◌<◌, ◌≤◌, List, [], ◌∷◌, ◌++◌, length, Some, None, slice_get, refl, sym, ap, ◌∙◌, ◌⊎◌, inl, inr, arith}
use Rattle.std.proofs.lemmas.Bool.{cases_lt}
use Rattle.law.specs.Runs.{Frame}
use Rattle.law.specs.Law.{numbered}

pub none_some : {A : Type 0} {x : A} → None ≡ Some x → ⊥
none_some e = cc

pub same_some : {A : Type 0} {x y : A} → Some x ≡ Some y → x ≡ y
same_some e = cc

module _ {A : Type 0} where
  get_old : (fs : List A) (x : A) (n : ℕ) → n < length fs → slice_get (fs ++ (x ∷ [])) n ≡ slice_get fs n
  get_old [] x n h = absurd (omega arith)
  get_old (y ∷ ys) x zero h = refl
  get_old (y ∷ ys) x (suc n) h = get_old ys x n (omega arith)

  get_new : (fs : List A) (x : A) → slice_get (fs ++ (x ∷ [])) (length fs) ≡ Some x
  get_new [] x = refl
  get_new (y ∷ ys) x = get_new ys x

  get_below : (fs : List A) (n : ℕ) (f : A) → slice_get fs n ≡ Some f → n < length fs
  get_below [] n f e = absurd (none_some e)
  get_below (x ∷ xs) zero f e = omega arith
  get_below (x ∷ xs) (suc n) f e = let h = get_below xs n f e in omega arith

  get_some : (fs : List A) (n : ℕ) → n < length fs → (f : A) × (slice_get fs n ≡ Some f)
  get_some [] n h = absurd (omega arith)
  get_some (x ∷ xs) zero h = (x, refl)
  get_some (x ∷ xs) (suc n) h = get_some xs n (omega arith)

  pub push_length : (fs : List A) (x : A) → length (fs ++ (x ∷ [])) ≡ suc (length fs)
  push_length [] x = refl
  push_length (y ∷ ys) x = ap suc (push_length ys x)

  pub append_nil : (fs : List A) → fs ++ [] ≡ fs
  append_nil [] = refl
  append_nil (x ∷ xs) = ap (λ l. x ∷ l) (append_nil xs)

module _ {A : Type 0} where
  pub old_number : (fs : List (Frame A)) (x : Frame A) (n : ℕ) → n ≤ length fs → numbered (fs ++ (x ∷ [])) n ≡ numbered fs n
  old_number fs x zero h = refl
  old_number fs x (suc n) h = get_old fs x n (omega arith)

  pub new_number : (fs : List (Frame A)) (x : Frame A) (n : ℕ) → n ≡ suc (length fs) → numbered (fs ++ (x ∷ [])) n ≡ Some x
  new_number fs x n e = ap (numbered (fs ++ (x ∷ []))) e ∙ get_new fs x

  pub number_in : (fs : List (Frame A)) (n : ℕ) (f : Frame A) → numbered fs n ≡ Some f → (1 ≤ n) × (n ≤ length fs)
  number_in fs zero f e = absurd (none_some e)
  number_in fs (suc n) f e = let h = get_below fs n f e in (omega arith, omega arith)

  pub number_some : (fs : List (Frame A)) (n : ℕ) → 1 ≤ n → n ≤ length fs → (f : Frame A) × (numbered fs n ≡ Some f)
  number_some fs zero h l = absurd (omega arith)
  number_some fs (suc n) h l = get_some fs n (omega arith)

  -- a number of the longer list is one of the shorter, or the new one
  pub number_push : (fs : List (Frame A)) (x : Frame A) (n : ℕ) (f : Frame A) → numbered (fs ++ (x ∷ [])) n ≡ Some f
      → ((n ≤ length fs) × (numbered fs n ≡ Some f)) ⊎ ((n ≡ suc (length fs)) × (f ≡ x))
  number_push fs x n f e = elim (cases_lt (length fs) n) [
    | inr o ↦ let l : n ≤ length fs = omega arith in inl (l, sym (old_number fs x n l) ∙ e)
    | inl g ↦
        let b = number_in (fs ++ (x ∷ [])) n f e in
        let q : n ≡ suc (length fs) = omega (arith, b, push_length fs x) in
        inr (q, same_some (sym e ∙ new_number fs x n q))
  ]
