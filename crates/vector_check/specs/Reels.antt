-- The cases of reel-check.txt: the name of a reel, and what its check answers.
use Rattle.std.specs.Prelude.{◌≡◌, ℕ, List, ◌++◌, codes, Option, Some, String, Vec}
use Rattle.std.specs.BTreeMap.{BTreeMap, get_by_text}
use Rattle.std.specs.Option.{option_map}
use Rattle.reel.specs.Tests.{fault}
use Rattle.reel_text.specs.Text.{answer_text}
use Rattle.vector_check.specs.Differences.{Finds}
use Rattle.vector_check.specs.Words.{IsWord}

-- the bytes of the reel of a name, among those that were read
abbrev pub reel_of : {Y Z : Type 0} → BTreeMap (String Y) (Vec ℕ Z) → List ℕ → Option (List ℕ)
reel_of reels name = option_map (λ v. v.items) (get_by_text reels name)

-- the name of a reel that was read, and the answer behind its space
pub record ReelLine (read : List ℕ → Option (List ℕ)) (line name bytes answer : List ℕ) : Type 0 where
  pub parts : line ≡ name ++ (codes " " ++ answer)
  pub first : IsWord name
  pub reel : read name ≡ Some bytes

abbrev pub IsReelCase : (List ℕ → Option (List ℕ)) → List ℕ → Type 0
IsReelCase read line =
    (name : List ℕ) × (bytes : List ℕ) × (answer : List ℕ) × ReelLine read line name bytes answer

-- the answer of a check is that of the first test which the reel fails
abbrev pub AnswersReel : List ℕ → List ℕ → Type 0
AnswersReel bytes text = text ≡ answer_text (fault bytes)

-- the bytes of the reel give the answer
abbrev pub IsRightReel : (List ℕ → Option (List ℕ)) → List ℕ → Type 0
IsRightReel read line =
    (name : List ℕ) × (bytes : List ℕ) × (answer : List ℕ) × ReelLine read line name bytes answer
    × AnswersReel bytes answer

-- a text names what the bytes give instead
abbrev pub NamesReel : (List ℕ → Option (List ℕ)) → List ℕ → List ℕ → Type 0
NamesReel read line text =
    (name : List ℕ) × (bytes : List ℕ) × (answer : List ℕ) × ReelLine read line name bytes answer
    × Finds (AnswersReel bytes) (codes "reel-check " ++ name) answer (Some text)
