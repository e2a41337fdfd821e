-- Of a whole frame: its codes fit a packet, decoding them gives what was encoded, and there is one answer.
use Rattle.std.specs.Prelude.{◌≡◌, ℕ, ◌<◌, ◌≤◌, List, Some, None, Option, slice_index_or}
use Rattle.service.specs.declared.rates.Rate.{Rate}
use Rattle.service.specs.Rates.{rate_is}
use Rattle.service.specs.Refusals.{Answer}
use Rattle.packet_layout.specs.declared.code_bits.CodeName.TheVariants.{Plag, Pgain, Cbindex, Cbgain}
use Rattle.packet_layout.specs.CodeBits.{Fits}
use Rattle.packet_layout.specs.declared.subframes.CodebookCodes.{CodebookCodes}
use Rattle.figures.specs.declared.codebook.CodebookFigure.{CodebookFigure}
use Rattle.figures.specs.declared.codebook.CodebookParameter.{CodebookParameter}
use Rattle.packet_layout.specs.declared.subframes.PitchCodes.{PitchCodes}
use Rattle.figures.specs.Codebook.{DecodesCodebooks, EncodesCodebooks, RefusesCodebooks, parameter_at}
use Rattle.figures.specs.Laws.{figure_of_parameter}
use Rattle.figures.specs.Pitch.{DecodesPitches, EncodesPitches, RefusesPitches, no_pitch, pair_at}

-- PLAG and PGAIN of each subframe are within the widths that a packet of this rate has for them
pub record PitchCodesOfFrameFit (rate : Rate) (codes : PitchCodes) : Type 0 where
  pub plag : Fits rate Plag codes.plag
  pub pgain : Fits rate Pgain codes.pgain

-- CBINDEX and CBGAIN of each subframe are within the widths that it has for them
pub record CodebookCodesOfFrameFit (rate : Rate) (codes : CodebookCodes) : Type 0 where
  pub cbindex : Fits rate Cbindex codes.cbindex
  pub cbgain : Fits rate Cbgain codes.cbgain

-- what encoding a frame answers fits a packet
pub record EncodedCodesFit : Type 0 where
  pub pitch :
      (rate : Rate) (pairs : List (ℕ × ℕ)) (codes : PitchCodes) → EncodesPitches rate pairs codes
      → PitchCodesOfFrameFit rate codes
  pub codebook :
      (rate : Rate) (parameters : List CodebookParameter) (codes : CodebookCodes)
      → EncodesCodebooks rate parameters codes → CodebookCodesOfFrameFit rate codes

-- the pairs read are those sent in the subframes of the rate, and there is no pitch past these
pub record PairsReadAsSent (rate : Rate) (sent read : List (ℕ × ℕ)) : Type 0 where
  pub same : (i : ℕ) → i < (rate_is rate).pitch_subframes → pair_at read i ≡ pair_at sent i
  pub past : (i : ℕ) → (rate_is rate).pitch_subframes ≤ i → i < 4 → pair_at read i ≡ no_pitch

-- the figures read are those of the parameters sent in the subframes of the rate, and past these are none
pub record FiguresReadAsSent (rate : Rate) (sent : List CodebookParameter)
    (read : List (Option CodebookFigure)) : Type 0 where
  pub same :
      (i : ℕ) → i < (rate_is rate).codebook_subframes
      → slice_index_or read i None ≡ Some (figure_of_parameter rate (parameter_at sent i))
  pub past : (i : ℕ) → (rate_is rate).codebook_subframes ≤ i → i < 8 → slice_index_or read i None ≡ None

-- decoding the codes of a frame gives what was encoded
pub record FramesReadAsSent : Type 0 where
  pub pitch :
      (rate : Rate) (sent read : List (ℕ × ℕ)) (codes : PitchCodes) → EncodesPitches rate sent codes
      → DecodesPitches rate codes read → PairsReadAsSent rate sent read
  pub codebook :
      (rate : Rate) (sent : List CodebookParameter) (read : List (Option CodebookFigure)) (codes : CodebookCodes)
      → EncodesCodebooks rate sent codes → DecodesCodebooks rate codes read → FiguresReadAsSent rate sent read

-- of the pitch: two answers to the same input are equal, and no pairs are both encoded and refused
pub record OnePitchAnswer : Type 0 where
  pub decoded :
      (rate : Rate) (codes : PitchCodes) (a b : List (ℕ × ℕ)) → DecodesPitches rate codes a
      → DecodesPitches rate codes b → a ≡ b
  pub encoded :
      (rate : Rate) (pairs : List (ℕ × ℕ)) (a b : PitchCodes) → EncodesPitches rate pairs a
      → EncodesPitches rate pairs b → a ≡ b
  pub refused :
      (rate : Rate) (pairs : List (ℕ × ℕ)) (a b : Answer) → RefusesPitches rate pairs a → RefusesPitches rate pairs b
      → a ≡ b
  pub not_both :
      (rate : Rate) (pairs : List (ℕ × ℕ)) (a : PitchCodes) (b : Answer) → EncodesPitches rate pairs a
      → RefusesPitches rate pairs b → ⊥

-- of the codebook: two answers to the same input are equal, and no parameters are both encoded and refused
pub record OneCodebookAnswer : Type 0 where
  pub decoded :
      (rate : Rate) (codes : CodebookCodes) (a b : List (Option CodebookFigure)) → DecodesCodebooks rate codes a
      → DecodesCodebooks rate codes b → a ≡ b
  pub encoded :
      (rate : Rate) (parameters : List CodebookParameter) (a b : CodebookCodes) → EncodesCodebooks rate parameters a
      → EncodesCodebooks rate parameters b → a ≡ b
  pub refused :
      (rate : Rate) (parameters : List CodebookParameter) (a b : Answer) → RefusesCodebooks rate parameters a
      → RefusesCodebooks rate parameters b → a ≡ b
  pub not_both :
      (rate : Rate) (parameters : List CodebookParameter) (a : CodebookCodes) (b : Answer)
      → EncodesCodebooks rate parameters a → RefusesCodebooks rate parameters b → ⊥
