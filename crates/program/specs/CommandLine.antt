-- What words ask of a program. They are those behind its name on the command line, by their bytes.
use Rattle.std.specs.Prelude.{ℕ, ◌++◌, ◌==◌, Bool, false, if◌then◌else◌, List, [], ◌∷◌, length, codes, slice_get}
use Rattle.std.specs.Prelude.{Option, Some, None, Result, Ok, Err}
use Rattle.std.specs.Str.{bytes_eq}
use Rattle.program.specs.declared.command_line.Asked.{Asked}
use Rattle.program.specs.declared.command_line.Asked.TheVariants.{Run, Help}
use Rattle.program.specs.declared.command_line.UsageError.{UsageError}
use Rattle.program.specs.declared.command_line.UsageError.TheVariants.{UnknownWord, MissingOperand}

-- the first word is --help
abbrev pub asks_help : List (List ℕ) → Bool
asks_help [] = false
asks_help (word ∷ words) = bytes_eq word (codes "--help")

-- how many words a program with so many operands has a place for: --help stands alone
abbrev pub places : ℕ → List (List ℕ) → ℕ
places operands words = if asks_help words then 1 else operands

-- what they ask where each place has its word; else the first word that has no place, or none where one is missing
abbrev pub asked : ℕ → List (List ℕ) → Result Asked (Option (List ℕ))
asked operands words =
    if length words == places operands words then Ok (if asks_help words then Help else Run)
    else Err (slice_get words (places operands words))

-- the word that an error names
abbrev pub word_of : UsageError → Option (List ℕ)
word_of (UnknownWord word) = Some word.now
word_of MissingOperand = None

abbrev pub usage : Result Asked UsageError → Result Asked (Option (List ℕ))
usage (Ok asks) = Ok asks
usage (Err e) = Err (word_of e)

abbrev pub usage_text : Option (List ℕ) → List ℕ
usage_text (Some word) = codes "'" ++ (word ++ codes "' is not known")
usage_text None = codes "an operand is missing"
