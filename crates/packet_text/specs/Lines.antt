-- How lines are answered, one by one.
use Rattle.std.specs.Prelude.{◌≡◌, ℕ, ◌<◌, List, [], ◌∷◌, ◌++◌, codes, length, Option}
use Rattle.std.specs.List.{flat_map}
use Rattle.std.specs.Io.BufRead.{drop_through, first_piece}
use Rattle.std.specs.Io.KnownBytes.{Appends}
use Rattle.packet_lines.specs.Answers.{Answers}

-- a line is answered by a text and a line feed, behind what the output held, where this is known
abbrev pub AnswersLine : List ℕ → Option (List ℕ) → Option (List ℕ) → Type 0
AnswersLine line before after = (text : List ℕ) × Answers line text × Appends before after (text ++ codes "\n")

-- a line ends at a line feed, and the last at the end of the input too: each line of the input has one text, which
-- answers it
abbrev pub AnswersLines : List ℕ → List (List ℕ) → Type 0
AnswersLines input [] = input ≡ []
AnswersLines input (t ∷ ts) =
    (0 < length input) × Answers (first_piece 10 input) t × AnswersLines (drop_through 10 input) ts

-- the texts, each with a line feed
abbrev pub output_text : List (List ℕ) → List ℕ
output_text ts = flat_map (λ t. t ++ codes "\n") ts

-- the lines of an input are answered one by one
abbrev pub AnswersInput : List ℕ → Option (List ℕ) → Option (List ℕ) → Type 0
AnswersInput input before after = (ts : List (List ℕ)) × AnswersLines input ts × Appends before after (output_text ts)
