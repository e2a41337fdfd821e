-- The pitch lag and the pitch gain of a subframe (IS-96, A.1.4.5). A pair is the lag in samples, and the gain in
-- quarters. What is unfoldable is opaque: a proof sees behind its name only if it says so.
use Rattle.std.specs.Prelude.{◌≡◌, ℕ, ◌+◌, ◌-◌, ◌<◌, ◌≤◌, Bool, if◌then◌else◌, ◌&&◌, List, length, ◌==◌, nat_le}
use Rattle.std.specs.Prelude.{slice_index, slice_index_or}
use Rattle.service.specs.declared.rates.Rate.{Rate}
use Rattle.service.specs.Rates.{rate_is}
use Rattle.service.specs.Refusals.{Answer}
use Rattle.packet_layout.specs.declared.subframes.PitchCodes.{PitchCodes}
use Rattle.service.specs.FirstToFail.{AllPass, RefusedAtFirst}

-- no pitch: lag 16 and gain 0
abbrev pub no_pitch : ℕ × ℕ
no_pitch = (16, 0)

-- the pair that PLAG and PGAIN stand for: no pitch at PLAG 0, whatever PGAIN is
unfoldable pub pitch_of : ℕ → ℕ → ℕ × ℕ
pitch_of plag pgain = if plag == 0 then no_pitch else (plag + 16, pgain + 1)

-- a pair that codes can stand for: lag 16 at gain 0, and the lags 17 to 143 at the gains 1 to 8
unfoldable pub pitch_allowed : ℕ × ℕ → Bool
pitch_allowed (lag, gain) =
    if gain == 0 then lag == 16 else nat_le 17 lag && nat_le lag 143 && nat_le gain 8

-- PLAG and PGAIN of such a pair
unfoldable pub pitch_codes : ℕ × ℕ → ℕ × ℕ
pitch_codes (lag, gain) = if gain == 0 then (0, 0) else (lag - 16, gain - 1)

-- the pair of the subframe at an index
abbrev pub pair_at : List (ℕ × ℕ) → ℕ → ℕ × ℕ
pair_at pairs i = slice_index_or pairs i (0, 0)

-- PLAG and PGAIN of the subframe at an index
abbrev pub pitch_codes_at : PitchCodes → ℕ → ℕ × ℕ
pitch_codes_at codes i = (slice_index codes.plag i, slice_index codes.pgain i)

-- what the codes of the subframe at an index stand for
abbrev pub pitch_at : PitchCodes → ℕ → ℕ × ℕ
pitch_at codes i = pitch_of (slice_index codes.plag i) (slice_index codes.pgain i)

-- These are the four pairs of a frame's codes: each subframe of the rate is decoded, and past these there is no pitch.
pub record DecodesPitches (rate : Rate) (codes : PitchCodes) (pairs : List (ℕ × ℕ)) : Type 0 where
  pub plag_length : length codes.plag ≡ 4
  pub pgain_length : length codes.pgain ≡ 4
  pub pairs_length : length pairs ≡ 4
  pub decoded : (i : ℕ) → i < (rate_is rate).pitch_subframes → pair_at pairs i ≡ pitch_at codes i
  pub past : (i : ℕ) → (rate_is rate).pitch_subframes ≤ i → i < 4 → pair_at pairs i ≡ no_pitch

-- the pair of each pitch subframe of the rate is one that codes can stand for
abbrev pub PitchesAllowed : Rate → List (ℕ × ℕ) → Type 0
PitchesAllowed rate pairs = AllPass (rate_is rate).pitch_subframes (λ i. pitch_allowed (pair_at pairs i))

-- These are the codes of a frame's four pairs: each subframe of the rate is encoded, and past these all codes are 0.
pub record EncodesPitches (rate : Rate) (pairs : List (ℕ × ℕ)) (codes : PitchCodes) : Type 0 where
  pub pairs_length : length pairs ≡ 4
  pub plag_length : length codes.plag ≡ 4
  pub pgain_length : length codes.pgain ≡ 4
  pub allowed : PitchesAllowed rate pairs
  pub encoded : (i : ℕ) → i < (rate_is rate).pitch_subframes → pitch_codes_at codes i ≡ pitch_codes (pair_at pairs i)
  pub past : (i : ℕ) → (rate_is rate).pitch_subframes ≤ i → i < 4 → pitch_codes_at codes i ≡ (0, 0)

-- refusal 11 of the first subframe of the rate whose pair no codes can stand for
abbrev pub RefusesPitches : Rate → List (ℕ × ℕ) → Answer → Type 0
RefusesPitches rate pairs answer =
    RefusedAtFirst 11 (rate_is rate).pitch_subframes (λ i. pitch_allowed (pair_at pairs i)) answer
