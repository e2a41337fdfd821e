-- The tally of one line more.
use Rattle.std.proofs.Common.{◌≡◌, ℕ, ◌+◌, ◌≤◌, List, [], ◌∷◌, ◌++◌, length, codes, sym, refl, ap, ◌∙◌, inl, inr, arith, length-append, ◌<◌, get_or, take, drop, map, append_assoc}
use Rattle.std.specs.List.{flat_map}
use Rattle.std.specs.String.{string_bytes}
use Rattle.std.proofs.lemmas.List.{append-nil, map_more, map-append, take-append-drop}
use Rattle.std.proofs.lemmas.List.Elements.{All-nil, All-push}
use Rattle.std.proofs.lemmas.List.Concat.{flat_map-append}
use Rattle.vector_check.specs.declared.tallies.Tally.{Tally}
use Rattle.vector_check.specs.declared.comparing.Comparison.{Comparison}
use Rattle.vector_check.specs.Tallies.{AddsLine, AddsRight, AddsWrong, NamesEachWrong, Tallied}

module _ (IsCase IsRight : List ℕ → Type 0) (Names : List ℕ → List ℕ → Type 0) where
  names_right : (lines texts : List (List ℕ)) (line : List ℕ) → NamesEachWrong IsRight Names lines texts → IsRight line
      → NamesEachWrong IsRight Names (lines ++ line ∷ []) texts
  names_right [] texts line e right = inl (right, e)
  names_right (x ∷ xs) texts line (inl (r, h)) right = inl (r, names_right xs texts line h right)
  names_right (x ∷ xs) texts line (inr (wrong, (text, rest, e, named, h))) right =
      inr (wrong, (text, rest, e, named, names_right xs rest line h right))

  names_wrong : (lines texts : List (List ℕ)) (line t : List ℕ) → NamesEachWrong IsRight Names lines texts → (IsRight line → ⊥) → Names line t
      → NamesEachWrong IsRight Names (lines ++ line ∷ []) (texts ++ t ∷ [])
  names_wrong [] texts line t e wrong named = inr (wrong, (t, [], ap (λ ts. ts ++ t ∷ []) e, named, refl))
  names_wrong (x ∷ xs) texts line t (inl (r, h)) wrong named = inl (r, names_wrong xs texts line t h wrong named)
  names_wrong (x ∷ xs) texts line t (inr (other, (text, rest, e, is, h))) wrong named =
      inr (other, (text, rest ++ t ∷ [], ap (λ ts. ts ++ t ∷ []) e, is, names_wrong xs rest line t h wrong named))

  pub tallied_none : (t : Tally) (printed : List ℕ) → t.compared ≡ 0 → t.differ ≡ 0 → printed ≡ [] → Tallied IsCase IsRight Names [] t printed
  tallied_none t printed c d e = record { cases = All-nil IsCase; texts = []; each = refl; compared = c; differ = d; named = e }

  right_more : (lines : List (List ℕ)) (line : List ℕ) (old new : Comparison)
      → Tallied IsCase IsRight Names lines old.tally (string_bytes old.differences) → IsCase line → IsRight line → AddsRight old new
      → Tallied IsCase IsRight Names (lines ++ line ∷ []) new.tally (string_bytes new.differences)
  right_more lines line old new h case right a = record {
    cases = All-push IsCase lines line h.cases case;
    texts = h.texts;
    each = names_right lines h.texts line h.each right;
    compared = a.compared ∙ ap (λ n. n + 1) h.compared ∙ sym (length-append lines (line ∷ []));
    differ = a.differ ∙ h.differ;
    named = a.named ∙ h.named;
  }

  wrong_more : (lines : List (List ℕ)) (line text : List ℕ) (old new : Comparison)
      → Tallied IsCase IsRight Names lines old.tally (string_bytes old.differences) → IsCase line → (IsRight line → ⊥) → Names line text → AddsWrong old text new
      → Tallied IsCase IsRight Names (lines ++ line ∷ []) new.tally (string_bytes new.differences)
  wrong_more lines line text old new h case wrong names a =
      let more : flat_map (λ u. u ++ codes "\n") (h.texts ++ text ∷ []) ≡ flat_map (λ u. u ++ codes "\n") h.texts ++ (text ++ codes "\n")
      = flat_map-append (λ u. u ++ codes "\n") h.texts (text ∷ []) ∙ ap (λ l. flat_map (λ u. u ++ codes "\n") h.texts ++ l) (append-nil (text ++ codes "\n")) in
      record {
        cases = All-push IsCase lines line h.cases case;
        texts = h.texts ++ text ∷ [];
        each = names_wrong lines h.texts line text h.each wrong names;
        compared = a.compared ∙ ap (λ n. n + 1) h.compared ∙ sym (length-append lines (line ∷ []));
        differ = a.differ ∙ ap (λ n. n + 1) h.differ ∙ sym (length-append h.texts (text ∷ []));
        named = a.named ∙ ap (λ l. l ++ (text ++ codes "\n")) h.named ∙ sym more;
      }

  pub tallied_more : (lines : List (List ℕ)) (line : List ℕ) (old new : Comparison)
      → Tallied IsCase IsRight Names lines old.tally (string_bytes old.differences) → AddsLine (IsCase line) (IsRight line) (Names line) old new
      → Tallied IsCase IsRight Names (lines ++ line ∷ []) new.tally (string_bytes new.differences)
  tallied_more lines line old new h (case, inl (right, a)) = right_more lines line old new h case right a
  tallied_more lines line old new h (case, inr (text, wrong, names, a)) = wrong_more lines line text old new h case wrong names a

abbrev pub Within : Tally → Type 0
Within t = t.differ ≤ t.compared

pub within_more : (IsCase IsRight : Type 0) (Names : List ℕ → Type 0) (old new : Comparison) → Within old.tally → AddsLine IsCase IsRight Names old new
    → Within new.tally
within_more IsCase IsRight Names old new h (case, inl (right, a)) = omega (arith, a.compared, a.differ)
within_more IsCase IsRight Names old new h (case, inr (text, wrong, names, a)) = omega (arith, a.compared, a.differ)

pub whole_more : (IsCase IsRight : Type 0) (Names : List ℕ → Type 0) (old new : Comparison) → AddsLine IsCase IsRight Names old new
    → new.malformed ≡ old.malformed
whole_more IsCase IsRight Names old new (case, inl (right, a)) = a.malformed
whole_more IsCase IsRight Names old new (case, inr (text, wrong, names, a)) = a.malformed

-- a line stands between those before it and those behind it
pub parts_at : {X : Type 0} (f : X → List ℕ) (xs : List X) (i : ℕ) (d : X) → i < length xs
    → map f xs ≡ map f (take i xs) ++ (f (get_or xs i d) ∷ map f (drop (i + 1) xs))
parts_at f xs i d h =
    sym (ap (map f) (take-append-drop (i + 1) xs)) ∙ map-append f (take (i + 1) xs) (drop (i + 1) xs)
    ∙ ap (λ l. l ++ map f (drop (i + 1) xs)) (map_more f xs i d h)
    ∙ append_assoc (map f (take i xs)) (f (get_or xs i d) ∷ []) (map f (drop (i + 1) xs))
