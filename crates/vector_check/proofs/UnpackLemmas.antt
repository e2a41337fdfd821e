-- Cases of unpacking.
use Rattle.std.proofs.Common.{◌≡◌, ℕ, List, ◌∷◌, ◌++◌, Option, Some, None, Ok, subst, refl}
use Rattle.std.specs.Option.{option_map}
use Rattle.packet_lines.specs.Answers.{Answers}
use Rattle.packet_lines.proofs.OneAnswer.{one_answer_to_each_line}
use Rattle.vector_check.specs.Differences.{Finds, Judges}
use Rattle.vector_check.specs.Packs.{unpack_of}
use Rattle.vector_check.specs.Unpacks.{IsRightUnpack, IsUnpackCase, NamesUnpack, UnpackLine}
use Rattle.vector_check.specs.Words.{FirstWord, IsWord}
use Rattle.vector_check.proofs.Found.{differs}
use Rattle.vector_check.proofs.WordLemmas.{no_parts, same_first}

same_line : (line r b t r' b' t' : List ℕ) → UnpackLine line r b t → UnpackLine line r' b' t' → (r ≡ r') × (b ≡ b') × (t ≡ t')
same_line line r b t r' b' t' a k =
    let f = same_first line r r' (b ++ (32 ∷ t)) (b' ++ (32 ∷ t')) a.first k.first a.parts k.parts in
    let s = same_first (b ++ (32 ∷ t)) b b' t t' a.second k.second refl f.1 in
    (f.0, s.0, s.1)

-- a line with no space, or one space, is no case
pub no_bytes : (line : List ℕ) → IsWord line → IsUnpackCase line → ⊥
no_bytes line h (r, b, t, a) = no_parts line r (b ++ (32 ∷ t)) h a.parts

pub no_answer : (line word rest : List ℕ) → FirstWord line word rest → IsWord rest → IsUnpackCase line → ⊥
no_answer line word rest f h (r, b, t, a) =
    let s = same_first line word r rest (b ++ (32 ∷ t)) f.first a.first f.parts a.parts in
    no_parts rest b t h s.1

right_as : (line r b t : List ℕ) → UnpackLine line r b t → IsRightUnpack line → Answers (unpack_of r b) t
right_as line r b t a (r', b', t', k, right) =
    let s = same_line line r' b' t' r b t k a in
    subst (λ x. Answers (unpack_of x b) t) s.0
    (subst (λ x. Answers (unpack_of r' x) t) s.1 (subst (λ x. Answers (unpack_of r' b') x) s.2 right))

pub unpack_judged : {X : Type 0} (bytes : X → List ℕ) (line r b t : List ℕ) (found : Option X) → UnpackLine line r b t
    → Finds (Answers (unpack_of r b)) (unpack_of r b) t (option_map bytes found)
    → Judges bytes (IsUnpackCase line) (IsRightUnpack line) (NamesUnpack line) (Ok found)
unpack_judged bytes line r b t None a f = ((r, b, t, a), (r, b, t, a, f))
unpack_judged bytes line r b t (Some s) a f =
    let U = unpack_of r b in
    ((r, b, t, a), λ right. differs (Answers U) U t (bytes s) (one_answer_to_each_line U) f (right_as line r b t a right), (r, b, t, a, f))
