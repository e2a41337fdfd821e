-- Cases of the check of reels.
use Rattle.std.proofs.Common.{◌≡◌, ℕ, List, ◌++◌, codes, Option, Some, None, Ok, sym, subst, ap, ◌∙◌}
use Rattle.std.specs.Option.{option_map}
use Rattle.vector_check.specs.Differences.{Finds, Judges}
use Rattle.vector_check.specs.Reels.{AnswersReel, IsReelCase, IsRightReel, NamesReel, ReelLine}
use Rattle.vector_check.specs.Words.{FirstWord, IsWord}
use Rattle.vector_check.proofs.Found.{differs}
use Rattle.vector_check.proofs.WordLemmas.{no_parts, same_first}

module _ (read : List ℕ → Option (List ℕ)) where
  -- a line with no space is no case, nor is one that names no reel
  pub no_answer : (line : List ℕ) → IsWord line → IsReelCase read line → ⊥
  no_answer line h (n, b, t, a) = no_parts line n t h a.parts

  pub no_reel : (line name rest : List ℕ) → FirstWord line name rest → read name ≡ None → IsReelCase read line → ⊥
  no_reel line name rest f none (n, b, t, a) =
      let s = same_first line name n rest t f.first a.first f.parts a.parts in
      let found : read n ≡ Some b = a.reel in
      let named : read name ≡ read n = ap read s.0 in
      let clash : Some b ≡ None = sym found ∙ (sym named ∙ none) in
      cc

  right_as : (line n b t : List ℕ) → ReelLine read line n b t → IsRightReel read line → AnswersReel b t
  right_as line n b t a (n', b', t', k, right) =
      let s = same_first line n' n t' t k.first a.first k.parts a.parts in
      let is : read n ≡ Some b = a.reel in
      let is' : read n' ≡ Some b' = k.reel in
      let named : read n' ≡ read n = ap read s.0 in
      let same : b' ≡ b = cc in
      subst (λ x. AnswersReel x t) same (subst (λ x. AnswersReel b' x) s.1 right)

  pub reel_judged : {X : Type 0} (bytes : X → List ℕ) (line n b t : List ℕ) (found : Option X) → ReelLine read line n b t
      → Finds (AnswersReel b) (codes "reel-check " ++ n) t (option_map bytes found)
      → Judges bytes (IsReelCase read line) (IsRightReel read line) (NamesReel read line) (Ok found)
  reel_judged bytes line n b t None a f = ((n, b, t, a), (n, b, t, a, f))
  reel_judged bytes line n b t (Some s) a f = (
    (n, b, t, a),
    λ right. differs (AnswersReel b) (codes "reel-check " ++ n) t (bytes s) (λ x y p q. p ∙ sym q) f (right_as line n b t a right),
    (n, b, t, a, f),
  )
