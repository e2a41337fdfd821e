-- Ten values by their index, and what the library's from_fn makes of ten indices.
use Rattle.std.proofs.Common.{◌≡◌, ℕ, zero, suc, ◌+◌, ◌<◌, ◌≤◌, List, length, get_or, sym, refl, ◌∙◌, subst, inl, inr, zero-add, arith}
use denote.Param.Members.{Mut, Called}
use Rattle.std.specs.Array.{IsFromFnResult, IsFromFnResultFrom}
use Rattle.std.proofs.lemmas.Bool.{cases_lt}
use Rattle.std.proofs.lemmas.List.FromFn.{get_or-map-range_with_len, fill_by_all}
use Rattle.lsp.specs.Ten.{ten}

module _ {A : Type 0} (f : ℕ → A) (d : A) where
  pub get_or_ten : (i : ℕ) → i < 10 → get_or (ten f) i d ≡ f i
  unfolding ten
  get_or_ten i lt = get_or-map-range_with_len f 0 10 i i d lt (zero-add i)

  pub each_of_ten : (P : ℕ → A → Type 0) → ((i : ℕ) → i < 10 → P i (f i)) → (i : ℕ) → i < 10 → P i (get_or (ten f) i d)
  each_of_ten P each i lt = subst (P i) (sym (get_or_ten i lt)) (each i lt)

  pub is_ten : (xs : List A) → length xs ≡ 10 → ((i : ℕ) → i < 10 → get_or xs i d ≡ f i) → xs ≡ ten f
  unfolding ten
  is_ten xs long each = fill_by_all f xs 10 d long each

-- What the library's from_fn gives of ten indices. The closure alters none of what it holds, and answers h.
module _ {F A : Type 0} (g : Mut F (ℕ × Unit {0}) A) (h : ℕ → A) (f : F) (call : (i : ℕ) (x : A) (f' : F) → i < 10 → Called g f (i, tt) x f' → (x ≡ h i) × (f' ≡ f)) where
  calls_give : (d : A) (xs : List A) (n i : ℕ) → i + n ≡ 10 → IsFromFnResultFrom g f xs i n → (k : ℕ) → i ≤ k → k < 10 → get_or xs k d ≡ h k
  calls_give d xs zero i e r k le lt = absurd (omega arith)
  calls_give d xs (suc n) i e (f', x, is, called, rest) k le lt =
      let this = call i x f' (omega arith) called in
      elim (cases_lt i k) [
        | inl l ↦ calls_give d xs n (i + 1) (omega arith) (subst (λ p. IsFromFnResultFrom g p xs (i + 1) n) this.1 rest) k (omega arith) lt
        | inr o ↦ let same : i ≡ k = omega arith in subst (λ j. get_or xs j d ≡ h j) same (is.1 d ∙ this.0)
      ]

  pub from_fn_ten : (xs : List A) → IsFromFnResult g f xs 10 → xs ≡ ten h
  from_fn_ten xs r = is_ten h r.each.1 xs r.long (λ k lt. calls_give r.each.1 xs 10 0 refl r.each k (omega arith) lt)
