-- Cases of packing.
use Rattle.std.proofs.Common.{◌≡◌, ℕ, List, ◌∷◌, ◌++◌, Option, Some, None, Ok, subst, refl, inl, inr}
use Rattle.std.specs.Option.{option_map}
use Rattle.packet_lines.specs.Answers.{Answers}
use Rattle.packet_lines.proofs.OneAnswer.{one_answer_to_each_line}
use Rattle.vector_check.specs.Differences.{Finds, Judges}
use Rattle.vector_check.specs.Packs.{FindsPack, IsPackCase, IsRightPack, NamesPack, PackLine, RightPack, pack_of, unpack_of}
use Rattle.vector_check.specs.Words.{FirstWord, IsWord}
use Rattle.vector_check.proofs.Found.{both_none, both_some, differs}
use Rattle.vector_check.proofs.WordLemmas.{no_parts, same_first, same_last}

same_line : (line r v p r' v' p' : List ℕ) → PackLine line r v p → PackLine line r' v' p' → (r ≡ r') × (v ≡ v') × (p ≡ p')
same_line line r v p r' v' p' a b =
    let f = same_first line r r' (v ++ (32 ∷ p)) (v' ++ (32 ∷ p')) a.first b.first a.parts b.parts in
    let l = same_last (v ++ (32 ∷ p)) v v' p p' a.last b.last refl f.1 in
    (f.0, l.0, l.1)

-- a line with no space, or one space, is no case
pub no_packet : (line : List ℕ) → IsWord line → IsPackCase line → ⊥
no_packet line h (r, v, p, a) = no_parts line r (v ++ (32 ∷ p)) h a.parts

pub no_codes : (line word rest : List ℕ) → FirstWord line word rest → IsWord rest → IsPackCase line → ⊥
no_codes line word rest f h (r, v, p, a) =
    let s = same_first line word r rest (v ++ (32 ∷ p)) f.first a.first f.parts a.parts in
    no_parts rest v p h s.1

right_as : (line r v p : List ℕ) → PackLine line r v p → IsRightPack line → RightPack r v p
right_as line r v p a (r', v', p', b, right) =
    let s = same_line line r' v' p' r v p b a in
    subst (λ x. RightPack x v p) s.0 (subst (λ x. RightPack r' x p) s.1 (subst (λ x. RightPack r' v' x) s.2 right))

not_right : (line r v p text : List ℕ) → PackLine line r v p → FindsPack r v p (Some text) → IsRightPack line → ⊥
not_right line r v p text a f right =
    let ok = right_as line r v p a right in
    elim (both_some f.packed f.unpacked text f.both) [
      | inl (s, e) ↦
          let P = pack_of r v in
          differs (Answers P) P p s (one_answer_to_each_line P) (subst (λ o. Finds (Answers P) P p o) e f.packs) ok.packs
      | inr (s, e) ↦
          let U = unpack_of r p in
          differs (Answers U) U v s (one_answer_to_each_line U) (subst (λ o. Finds (Answers U) U v o) e f.unpacks) ok.unpacks
    ]

pub pack_judged : {X : Type 0} (bytes : X → List ℕ) (line r v p : List ℕ) (found : Option X) → PackLine line r v p
    → FindsPack r v p (option_map bytes found) → Judges bytes (IsPackCase line) (IsRightPack line) (NamesPack line) (Ok found)
pack_judged bytes line r v p None a f =
    let none = both_none f.packed f.unpacked f.both in
    let P = pack_of r v in
    let U = unpack_of r p in
    let right : RightPack r v p = record {
      packs = subst (λ o. Finds (Answers P) P p o) none.0 f.packs;
      unpacks = subst (λ o. Finds (Answers U) U v o) none.1 f.unpacks;
    } in
    ((r, v, p, a), (r, v, p, a, right))
pack_judged bytes line r v p (Some s) a f = ((r, v, p, a), not_right line r v p (bytes s) a f, (r, v, p, a, f))
