-- The cases of unpack.txt: a rate, the bytes and the answer.
use Rattle.std.specs.Prelude.{◌≡◌, ℕ, List, ◌++◌, codes, Some}
use Rattle.packet_lines.specs.Answers.{Answers}
use Rattle.vector_check.specs.Differences.{Finds}
use Rattle.vector_check.specs.Packs.{unpack_of}
use Rattle.vector_check.specs.Words.{IsWord}

-- the rate and the bytes are words, and the rest is the answer
pub record UnpackLine (line rate bytes answer : List ℕ) : Type 0 where
  pub parts : line ≡ rate ++ (codes " " ++ (bytes ++ (codes " " ++ answer)))
  pub first : IsWord rate
  pub second : IsWord bytes

abbrev pub IsUnpackCase : List ℕ → Type 0
IsUnpackCase line = (rate : List ℕ) × (bytes : List ℕ) × (answer : List ℕ) × UnpackLine line rate bytes answer

-- at the rate of the line, its bytes give its answer
abbrev pub IsRightUnpack : List ℕ → Type 0
IsRightUnpack line =
    (rate : List ℕ) × (bytes : List ℕ) × (answer : List ℕ) × UnpackLine line rate bytes answer
    × Answers (unpack_of rate bytes) answer

-- a text names what the bytes give instead
abbrev pub NamesUnpack : List ℕ → List ℕ → Type 0
NamesUnpack line text =
    (rate : List ℕ) × (bytes : List ℕ) × (answer : List ℕ) × UnpackLine line rate bytes answer
    × Finds (Answers (unpack_of rate bytes)) (unpack_of rate bytes) answer (Some text)
