-- What is found where an answer is compared with the expected one, and what is found of a case.
use Rattle.std.specs.Prelude.{◌≡◌, ◌≢◌, ℕ, List, ◌++◌, codes, Option, Some, None, Result, Ok, Err}
use Rattle.packet_lines.specs.declared.reasons.ReadError.{ReadError}
use Rattle.packet_lines.specs.declared.reasons.ReadError.TheVariants as read
use Rattle.vector_check.specs.declared.files.CaseError.{CaseError}
use Rattle.vector_check.specs.declared.files.CaseError.TheVariants.{Line, OutOfMemory}
use Rattle.vector_check.specs.declared.files.Malformed.TheVariants.{Unreadable}

-- an answer that differs is named by what was asked, what was expected and what was answered
abbrev pub difference_text : List ℕ → List ℕ → List ℕ → List ℕ
difference_text asked expected answered =
    asked ++ (codes ": expected '" ++ (expected ++ (codes "', answered '" ++ (answered ++ codes "'"))))

-- nothing is found if the expected text answers, and else the text names the answer that differs
abbrev pub Finds : (List ℕ → Type 0) → List ℕ → List ℕ → Option (List ℕ) → Type 0
Finds Answers asked expected None = Answers expected
Finds Answers asked expected (Some text) =
    (answered : List ℕ) × Answers answered × (answered ≢ expected) × (text ≡ difference_text asked expected answered)

-- what is found in two ways, a line for each
abbrev pub joined : Option (List ℕ) → Option (List ℕ) → Option (List ℕ)
joined None second = second
joined (Some first) None = Some first
joined (Some first) (Some second) = Some (first ++ (codes "\n" ++ second))

-- what comparing a case tells, seen by its bytes: that the line has the form of its file and is right; that it has the
-- form and is not right, and a text that names what differs; that it has not the form; or that memory ran out
abbrev pub Judges :
    {X : Type 0} → (X → List ℕ) → Type 0 → Type 0 → (List ℕ → Type 0) → Result (Option X) CaseError → Type 0
Judges bytes IsCase IsRight Names (Ok None) = IsCase × IsRight
Judges bytes IsCase IsRight Names (Ok (Some s)) = IsCase × (IsRight → ⊥) × Names (bytes s)
Judges bytes IsCase IsRight Names (Err (Line reason)) = IsCase → ⊥
Judges bytes IsCase IsRight Names (Err OutOfMemory) = Unit {0}

-- what reading a part of a line gives: a value of which P holds, or that the line has not the form of its file
abbrev pub Reads : {X : Type 0} → (X → Type 0) → Type 0 → Result X CaseError → Type 0
Reads P Fails (Ok x) = P x
Reads P Fails (Err (Line reason)) = Fails
Reads P Fails (Err OutOfMemory) = Unit {0}

-- why a line about packets cannot be read is why its case has not the form of its file
abbrev pub IsReadError : ReadError → CaseError → Type 0
IsReadError (read.Line reason) e = e ≡ Line (Unreadable reason)
IsReadError read.OutOfMemory e = e ≡ OutOfMemory
