-- Of one subframe: decoding gives what was encoded, and encoding gives what was decoded.
use Rattle.std.specs.Prelude.{◌≡◌, ℕ, ◌^◌, ◌<◌, true, if◌then◌else◌, ◌==◌, Some, None}
use Rattle.service.specs.declared.rates.Rate.{Rate}
use Rattle.service.specs.declared.rates.Rate.TheVariants.{Full}
use Rattle.packet_layout.specs.declared.code_bits.CodeName.TheVariants.{Plag, Pgain, Cbindex, Cbgain}
use Rattle.packet_layout.specs.CodeBits.{bits_at, width}
use Rattle.figures.specs.declared.codebook.CodebookFigure.{CodebookFigure}
use Rattle.figures.specs.declared.codebook.CodebookParameter.{CodebookParameter}
use Rattle.figures.specs.Pitch.{pitch_of, pitch_allowed, pitch_codes}
use Rattle.figures.specs.Codebook.{sends_index_and_sign, figure_of_codes, codebook_allowed, codebook_codes}

-- codes that fit the bits which a packet has for them; the rates that have pitch subframes have as many as Rate 1
pub record PitchCodesFit (plag pgain : ℕ) : Type 0 where
  pub plag_bits : plag < 2 ^ width Full Plag
  pub pgain_bits : pgain < 2 ^ width Full Pgain

-- an allowed pair is encoded to codes that fit, and decoding them gives the pair
pub record PitchDecoded (pair : ℕ × ℕ) : Type 0 where
  pub fit : PitchCodesFit (pitch_codes pair).0 (pitch_codes pair).1
  pub same : pitch_of (pitch_codes pair).0 (pitch_codes pair).1 ≡ pair

-- codes that fit are decoded to an allowed pair, and encoding it gives the same codes, but that PGAIN becomes 0 if PLAG
-- is 0
pub record PitchEncoded (plag pgain : ℕ) : Type 0 where
  pub allowed : pitch_allowed (pitch_of plag pgain) ≡ true
  pub same : pitch_codes (pitch_of plag pgain) ≡ (plag, if plag == 0 then 0 else pgain)

-- the pitch pair, both ways
pub record PitchRoundTrips : Type 0 where
  pub decoded : (pair : ℕ × ℕ) → pitch_allowed pair ≡ true → PitchDecoded pair
  pub encoded : (plag pgain : ℕ) → PitchCodesFit plag pgain → PitchEncoded plag pgain

-- codes that fit the bits which a packet of this rate has for those of its first subframe: none for CBINDEX at Rate
-- 1/8, where it is thus 0
pub record CodebookCodesFit (rate : Rate) (cbindex cbgain : ℕ) : Type 0 where
  pub cbindex_bits : cbindex < 2 ^ bits_at rate Cbindex 0
  pub cbgain_bits : cbgain < 2 ^ bits_at rate Cbgain 0

-- a parameter as it is to be decoded: with its index if the rate has one
abbrev pub figure_of_parameter : Rate → CodebookParameter → CodebookFigure
figure_of_parameter rate p = record {
  sign = p.sign;
  index = if sends_index_and_sign rate then Some p.index else None;
  increment = p.increment;
}

-- an allowed parameter is encoded to codes that fit, and decoding them gives the parameter
pub record CodebookDecoded (rate : Rate) (p : CodebookParameter) : Type 0 where
  pub fit : CodebookCodesFit rate (codebook_codes rate p).0 (codebook_codes rate p).1
  pub same : figure_of_codes rate (codebook_codes rate p).0 (codebook_codes rate p).1 ≡ figure_of_parameter rate p

-- a parameter that is what codes that fit are decoded to is allowed, and encoding it gives the same codes
pub record CodebookEncoded (rate : Rate) (cbindex cbgain : ℕ) (p : CodebookParameter) : Type 0 where
  pub allowed : codebook_allowed rate p ≡ true
  pub same : codebook_codes rate p ≡ (cbindex, cbgain)

-- the codebook parameter, both ways, at each rate
pub record CodebookRoundTrips : Type 0 where
  pub decoded : (rate : Rate) (p : CodebookParameter) → codebook_allowed rate p ≡ true → CodebookDecoded rate p
  pub encoded :
      (rate : Rate) (cbindex cbgain : ℕ) → CodebookCodesFit rate cbindex cbgain → (p : CodebookParameter)
      → figure_of_parameter rate p ≡ figure_of_codes rate cbindex cbgain → CodebookEncoded rate cbindex cbgain p
