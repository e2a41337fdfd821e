-- The codes of a whole frame: its LSP codes, and what its pitch pairs and codebook parameters are encoded to.
use Rattle.std.specs.Prelude.{◌≡◌, ℕ, ◌⊎◌, List, Result, MatchResult}
use Rattle.service.specs.declared.rates.Rate.{Rate}
use Rattle.service.specs.declared.refusals.Refusal.{Refusal}
use Rattle.service.specs.Refusals.{Answer, refusal_is}
use Rattle.packet.specs.declared.codes.CodeNumbers.{CodeNumbers}
use Rattle.packet.specs.declared.codes.Codes.{Codes}
use Rattle.packet.specs.OneAnswer.{SameUnpacked}
use Rattle.figures.specs.declared.codebook.CodebookParameter.{CodebookParameter}
use Rattle.figures.specs.Codebook.{EncodesCodebooks, RefusesCodebooks}
use Rattle.figures.specs.Pitch.{EncodesPitches, PitchesAllowed, RefusesPitches}

-- These are the codes of a frame: its LSP codes as they are, those of its pairs and parameters, and CBSEED 0.
pub record EncodesFrame (rate : Rate) (lsp_codes : List ℕ) (pairs : List (ℕ × ℕ))
    (parameters : List CodebookParameter) (c : CodeNumbers) : Type 0 where
  pub lsp : c.lsp ≡ lsp_codes
  pub pitch : EncodesPitches rate pairs c.pitch
  pub codebook : EncodesCodebooks rate parameters c.codebook
  pub cbseed : c.cbseed ≡ 0

-- refusal 11 of the first pitch subframe that fails, and if none does, 12 of the first codebook subframe that fails
abbrev pub RefusesFrame : Rate → List (ℕ × ℕ) → List CodebookParameter → Answer → Type 0
RefusesFrame rate pairs parameters answer =
    RefusesPitches rate pairs answer ⊎ (PitchesAllowed rate pairs × RefusesCodebooks rate parameters answer)

-- what encoding a frame answers: its codes at its rate, or the refusal
abbrev pub AnswersFrame : Rate → List ℕ → List (ℕ × ℕ) → List CodebookParameter → Result Codes Refusal → Type 0
AnswersFrame rate lsp_codes pairs parameters r =
    MatchResult r (λ codes. (codes.rate ≡ rate) × EncodesFrame rate lsp_codes pairs parameters codes.numbers)
    (λ e. RefusesFrame rate pairs parameters (refusal_is e))

-- two answers to the same frame are the same codes at the same rate, or the same refusal
abbrev pub OneFrameAnswer : Type 0
OneFrameAnswer =
    (rate : Rate) (lsp_codes : List ℕ) (pairs : List (ℕ × ℕ)) (parameters : List CodebookParameter)
    (r r' : Result Codes Refusal) → AnswersFrame rate lsp_codes pairs parameters r
    → AnswersFrame rate lsp_codes pairs parameters r' → SameUnpacked r r'
