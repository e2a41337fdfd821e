-- What the layouts promise.
use Rattle.std.specs.Prelude.{◌≡◌, ℕ, ◌-◌, ◌<◌, List, length, Some, slice_index, slice_get}
use Rattle.service.specs.declared.rates.Rate.{Rate}
use Rattle.service.specs.declared.rates.Rate.TheVariants.{Full}
use Rattle.service.specs.Rates.{rate_is}
use Rattle.packet_layout.specs.declared.code_bits.CodeBit.{CodeBit}
use Rattle.packet_layout.specs.CodeBits.{Has}
use Rattle.packet_layout.specs.Layouts.{at, layout}
use Rattle.packet_layout.specs.Guarded.{guarded, guarded_bits}

-- a code bit stands at exactly one place
abbrev pub Once : List CodeBit → CodeBit → Type 0
Once places c = (k : ℕ) × (at places k ≡ Some c) × ((j : ℕ) → at places j ≡ Some c → j ≡ k)

-- each code bit of the rate, check bits too, stands at exactly one place, and each bit of the packet carries one of
-- them
pub record EachCodeBitOnce (rate : Rate) (places : List CodeBit) : Type 0 where
  pub once : (c : CodeBit) → Has rate c → Once places c
  pub carried : (k : ℕ) (c : CodeBit) → at places k ≡ Some c → Has rate c
  pub bits : length places ≡ (rate_is rate).bits

-- it is so at each rate
abbrev pub EachCodeBitOnceAtEachRate : Type 0
EachCodeBitOnceAtEachRate = (rate : Rate) → EachCodeBitOnce rate (layout rate)

-- the place of a packet bit by its number, of which the highest is at place 0
abbrev pub place : Rate → ℕ → ℕ
place rate n = (rate_is rate).bits - 1 - n

-- the guarded bits of a Rate 1 packet stand at the packet bits of these numbers
abbrev pub GuardedPlaces : Type 0
GuardedPlaces = (i : ℕ) → i < 29 → at (layout Full) (place Full (slice_index guarded_bits i)) ≡ slice_get guarded i
