-- How many cases of a file were compared, and how many of them are not as they should be.
use Rattle.std.specs.Prelude.{◌≡◌, ℕ, ◌+◌, ◌<◌, ◌⊎◌, All, List, [], ◌∷◌, ◌++◌, length, codes, decimal, string_bytes}
use Rattle.std.specs.Prelude.{MatchOption}
use Rattle.std.specs.List.{flat_map}
use Rattle.vector_check.specs.declared.tallies.Tally.{Tally}
use Rattle.vector_check.specs.declared.comparing.Comparison.{Comparison}

-- each of these lines is right, or it is not and the next of the texts names what differs in it: so there is one text,
-- in order, for each line that is not right
abbrev pub NamesEachWrong : (List ℕ → Type 0) → (List ℕ → List ℕ → Type 0) → List (List ℕ) → List (List ℕ) → Type 0
NamesEachWrong IsRight Names [] texts = texts ≡ []
NamesEachWrong IsRight Names (line ∷ lines) texts =
    (IsRight line × NamesEachWrong IsRight Names lines texts)
    ⊎ ((IsRight line → ⊥) × ((text : List ℕ) × (rest : List (List ℕ)) × (texts ≡ text ∷ rest) × Names line text
    × NamesEachWrong IsRight Names lines rest))

-- all of these lines have the form of their file and are counted, and those that are not right are counted and named, a
-- line for each
pub record Tallied (IsCase IsRight : List ℕ → Type 0) (Names : List ℕ → List ℕ → Type 0) (lines : List (List ℕ))
    (t : Tally) (printed : List ℕ) : Type 0 where
  pub cases : All IsCase lines
  pub texts : List (List ℕ)
  pub each : NamesEachWrong IsRight Names lines texts
  pub compared : t.compared ≡ length lines
  pub differ : t.differ ≡ length texts
  pub named : printed ≡ flat_map (λ text. text ++ codes "\n") texts

-- a tally is that of all of these lines, whatever is printed of them
abbrev pub IsTallyOf :
    (IsCase IsRight : List ℕ → Type 0) → (List ℕ → List ℕ → Type 0) → List (List ℕ) → Tally → Type 0
IsTallyOf IsCase IsRight Names lines t = (printed : List ℕ) × Tallied IsCase IsRight Names lines t printed

-- something was compared, and nothing differs
abbrev pub IsAllRight : Tally → Type 0
IsAllRight t = (0 < t.compared) × (t.differ ≡ 0)

-- the first line that has not the form of its file, and the tally of those before it
pub record EndsAtMalformed (IsCase IsRight : List ℕ → Type 0) (Names : List ℕ → List ℕ → Type 0) (lines : List (List ℕ))
    (t : Tally) (printed : List ℕ) : Type 0 where
  pub before : List (List ℕ)
  pub line : List ℕ
  pub after : List (List ℕ)
  pub parts : lines ≡ before ++ (line ∷ after)
  pub tallied : Tallied IsCase IsRight Names before t printed
  pub malformed : IsCase line → ⊥

-- what comparing the lines of a file tells
abbrev pub Compares :
    (IsCase IsRight : List ℕ → Type 0) → (List ℕ → List ℕ → Type 0) → List (List ℕ) → Comparison → Type 0
Compares IsCase IsRight Names lines c =
    MatchOption c.malformed (Tallied IsCase IsRight Names lines c.tally (string_bytes c.differences))
    (λ _. EndsAtMalformed IsCase IsRight Names lines c.tally (string_bytes c.differences))

-- one line more is compared: it has the form of its file, and it is right, or it is not and a text names what differs
-- in it
pub record AddsRight (old new : Comparison) : Type 0 where
  pub compared : new.tally.compared ≡ old.tally.compared + 1
  pub differ : new.tally.differ ≡ old.tally.differ
  pub named : string_bytes new.differences ≡ string_bytes old.differences
  pub malformed : new.malformed ≡ old.malformed

pub record AddsWrong (old : Comparison) (text : List ℕ) (new : Comparison) : Type 0 where
  pub compared : new.tally.compared ≡ old.tally.compared + 1
  pub differ : new.tally.differ ≡ old.tally.differ + 1
  pub named : string_bytes new.differences ≡ string_bytes old.differences ++ (text ++ codes "\n")
  pub malformed : new.malformed ≡ old.malformed

abbrev pub AddsLine : (IsCase IsRight : Type 0) → (List ℕ → Type 0) → Comparison → Comparison → Type 0
AddsLine IsCase IsRight Names old new =
    IsCase
    × ((IsRight × AddsRight old new)
    ⊎ ((text : List ℕ) × (IsRight → ⊥) × Names text × AddsWrong old text new))

-- a tally as it is printed
abbrev pub tally_text : Tally → List ℕ
tally_text t = decimal t.compared ++ (codes " compared, " ++ (decimal t.differ ++ codes " differ"))
