-- What has been read of a packet after so many of its places. The public calls speak of `Holds` of Calls.antt instead.
use Rattle.std.specs.Prelude.{◌≡◌, ℕ, ◌<◌, List, length, Some, slice_index}
use Rattle.service.specs.declared.rates.Rate.{Rate}
use Rattle.packet_layout.specs.declared.code_bits.CodeBit.{CodeBit}
use Rattle.packet_layout.specs.CodeBits.{index}
use Rattle.packet_layout.specs.Layouts.{at, layout}
use Rattle.packet.specs.Bits.{bit, bit_at, value}

-- a place of the packet before n carries bit b of the code at index s
abbrev pub CarriedBefore : Rate → ℕ → ℕ → ℕ → Type 0
CarriedBefore rate n s b =
    (k : ℕ) × ((c : CodeBit) × ((k < n) × ((at (layout rate) k ≡ Some c) × ((index c ≡ s) × (c.bit ≡ b)))))

-- the 36 codes that the first n places of a packet hold: each code bit that they carry is the packet's, and all other
-- bits of the codes are zero
pub record HoldsBits (rate : Rate) (n : ℕ) (packet list : List ℕ) : Type 0 where
  pub size : length list ≡ 36
  pub bits : (k : ℕ) (c : CodeBit) → k < n → at (layout rate) k ≡ Some c → value list (Some c) ≡ bit_at packet k
  pub others : (s b : ℕ) → s < 36 → (CarriedBefore rate n s b → ⊥) → bit (slice_index list s) b ≡ 0

-- the same; opaque, so that the reading of one place more is a law about it
unfoldable pub ReadsTo : Rate → ℕ → List ℕ → List ℕ → Type 0
ReadsTo rate n packet list = HoldsBits rate n packet list
