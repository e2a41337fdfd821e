-- The sign, the codebook index and the increment of the codebook gain of a subframe (IS-96, A.1.4.6). What is
-- unfoldable is opaque: a proof sees behind its name only if it says so.
use Rattle.std.specs.Prelude.{◌≡◌, ℕ, ◌+◌, ◌%◌, ◌<◌, ◌≤◌, Bool, true, false, if◌then◌else◌, not, ◌&&◌, ◌||◌, nat_le}
use Rattle.std.specs.Prelude.{List, [], ◌∷◌, length, Some, None, Option, ℤ, pos, negsuc, ◌-ℤ◌, is_some, unwrap_or}
use Rattle.std.specs.Prelude.{slice_index, slice_index_or, position, unsigned_abs}
use Rattle.std.specs.Ordering.{int_eq}
use Rattle.std.specs.Int.{int_rem_euclid}
use Rattle.service.specs.declared.rates.Rate.{Rate}
use Rattle.service.specs.declared.rates.Rate.TheVariants.{Full, Half, Quarter, Eighth}
use Rattle.service.specs.Rates.{rate_is}
use Rattle.service.specs.Refusals.{Answer}
use Rattle.figures.specs.declared.codebook.Sign.{Sign}
use Rattle.figures.specs.declared.codebook.Sign.TheVariants.{Plus, Minus}
use Rattle.figures.specs.declared.codebook.CodebookFigure.{CodebookFigure}
use Rattle.figures.specs.declared.codebook.CodebookParameter.{CodebookParameter}
use Rattle.packet_layout.specs.declared.subframes.CodebookCodes.{CodebookCodes}
use Rattle.service.specs.FirstToFail.{AllPass, RefusedAtFirst}

-- the increments, in decibels, that the numbers 0 to 3 stand for; negsuc 3 is -4, and negsuc 1 is -2
abbrev pub increments : Rate → List ℤ
increments Full = negsuc 3 ∷ pos 0 ∷ pos 4 ∷ pos 8 ∷ []
increments Half = negsuc 3 ∷ pos 0 ∷ pos 4 ∷ pos 8 ∷ []
increments Quarter = negsuc 3 ∷ negsuc 1 ∷ pos 0 ∷ pos 2 ∷ []
increments Eighth = negsuc 3 ∷ negsuc 1 ∷ pos 0 ∷ pos 2 ∷ []

-- what a sign adds to the codes
pub record SignValues : Type 0 where
  pub above_number : ℕ  -- so much is CBGAIN above the increment's number
  pub above_index : ℕ  -- so much is CBINDEX above the index, modulo 128

-- what each sign is
abbrev pub sign_is : Sign → SignValues
sign_is Plus = record { above_number = 0; above_index = 0 }
sign_is Minus = record { above_number = 4; above_index = 89 }

-- all rates but Rate 1/8: there no index is sent, and the sign is always plus
abbrev pub sends_index_and_sign : Rate → Bool
sends_index_and_sign Full = true
sends_index_and_sign Half = true
sends_index_and_sign Quarter = true
sends_index_and_sign Eighth = false

-- the sign that CBGAIN stands for
abbrev pub sign_of : Rate → ℕ → Sign
sign_of rate cbgain = if sends_index_and_sign rate && nat_le (sign_is Minus).above_number cbgain then Minus else Plus

-- the increment that CBGAIN stands for, at either sign
abbrev pub increment_of : Rate → ℕ → ℤ
increment_of rate cbgain = slice_index_or (increments rate) (cbgain % 4) (pos 0)

-- the index that CBINDEX stands for: CBINDEX itself if the sign is plus, and (CBINDEX - 89) modulo 128 if it is minus
abbrev pub index_of : Sign → ℕ → ℕ
index_of Plus cbindex = cbindex
index_of Minus cbindex = unsigned_abs (int_rem_euclid (pos cbindex -ℤ pos (sign_is Minus).above_index) (pos 128))

-- what CBINDEX and CBGAIN stand for
unfoldable pub figure_of_codes : Rate → ℕ → ℕ → CodebookFigure
figure_of_codes rate cbindex cbgain = record {
  sign = sign_of rate cbgain;
  index = if sends_index_and_sign rate then Some (index_of (sign_of rate cbgain) cbindex) else None;
  increment = increment_of rate cbgain;
}

-- the number of an increment, if it is one of the rate's four
unfoldable pub increment_number : Rate → ℤ → Option ℕ
increment_number rate increment = position (λ z. int_eq z increment) (increments rate)

-- Rate 1/8 has no minus
abbrev pub sign_allowed : Rate → Sign → Bool
sign_allowed rate Plus = true
sign_allowed rate Minus = sends_index_and_sign rate

-- an index is 0 to 127; Rate 1/8 does not look at it
abbrev pub index_allowed : Rate → ℕ → Bool
index_allowed rate index = not (sends_index_and_sign rate) || nat_le index 127

-- a parameter that codes can stand for
unfoldable pub codebook_allowed : Rate → CodebookParameter → Bool
codebook_allowed rate p =
    sign_allowed rate p.sign && index_allowed rate p.index && is_some (increment_number rate p.increment)

-- the code of an index, at a rate that sends it: the index itself if the sign is plus, and (index + 89) modulo 128 if
-- it is minus
abbrev pub shifted : Sign → ℕ → ℕ
shifted Plus index = index
shifted Minus index = (index + (sign_is Minus).above_index) % 128

-- CBINDEX; Rate 1/8 has none, and it is 0 there
abbrev pub cbindex_of : Rate → Sign → ℕ → ℕ
cbindex_of rate sign index = if sends_index_and_sign rate then shifted sign index else 0

-- CBGAIN of the increment of this number
abbrev pub cbgain_of : Sign → ℕ → ℕ
cbgain_of sign number = number + (sign_is sign).above_number

-- CBINDEX and CBGAIN of such a parameter
unfoldable pub codebook_codes : Rate → CodebookParameter → ℕ × ℕ
codebook_codes rate p =
    (cbindex_of rate p.sign p.index, cbgain_of p.sign (unwrap_or (increment_number rate p.increment) 0))

-- the parameter of the subframe at an index
abbrev pub parameter_at : List CodebookParameter → ℕ → CodebookParameter
parameter_at parameters i = slice_index_or parameters i (record { sign = Plus; index = 0; increment = pos 0 })

-- CBINDEX and CBGAIN of the subframe at an index
abbrev pub codebook_codes_at : CodebookCodes → ℕ → ℕ × ℕ
codebook_codes_at codes i = (slice_index codes.cbindex i, slice_index codes.cbgain i)

-- what the codes of the subframe at an index stand for
abbrev pub codebook_at : Rate → CodebookCodes → ℕ → CodebookFigure
codebook_at rate codes i = figure_of_codes rate (slice_index codes.cbindex i) (slice_index codes.cbgain i)

-- These are the eight figures of a frame's codes: each subframe of the rate is decoded, and past these are none.
pub record DecodesCodebooks (rate : Rate) (codes : CodebookCodes)
    (figures : List (Option CodebookFigure)) : Type 0 where
  pub cbindex_length : length codes.cbindex ≡ 8
  pub cbgain_length : length codes.cbgain ≡ 8
  pub figures_length : length figures ≡ 8
  pub decoded :
      (i : ℕ) → i < (rate_is rate).codebook_subframes → slice_index_or figures i None ≡ Some (codebook_at rate codes i)
  pub past : (i : ℕ) → (rate_is rate).codebook_subframes ≤ i → i < 8 → slice_index_or figures i None ≡ None

-- the parameter of each codebook subframe of the rate is one that codes can stand for
abbrev pub CodebooksAllowed : Rate → List CodebookParameter → Type 0
CodebooksAllowed rate parameters =
    AllPass (rate_is rate).codebook_subframes (λ i. codebook_allowed rate (parameter_at parameters i))

-- These are the codes of a frame's eight parameters: each subframe of the rate is encoded, and past these all codes are
-- 0.
pub record EncodesCodebooks (rate : Rate) (parameters : List CodebookParameter) (codes : CodebookCodes) : Type 0 where
  pub parameters_length : length parameters ≡ 8
  pub cbindex_length : length codes.cbindex ≡ 8
  pub cbgain_length : length codes.cbgain ≡ 8
  pub allowed : CodebooksAllowed rate parameters
  pub encoded :
      (i : ℕ) → i < (rate_is rate).codebook_subframes
      → codebook_codes_at codes i ≡ codebook_codes rate (parameter_at parameters i)
  pub past : (i : ℕ) → (rate_is rate).codebook_subframes ≤ i → i < 8 → codebook_codes_at codes i ≡ (0, 0)

-- refusal 12 of the first subframe of the rate whose parameter no codes can stand for
abbrev pub RefusesCodebooks : Rate → List CodebookParameter → Answer → Type 0
RefusesCodebooks rate parameters answer =
    RefusedAtFirst 12 (rate_is rate).codebook_subframes (λ i. codebook_allowed rate (parameter_at parameters i)) answer
