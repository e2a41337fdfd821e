-- The bits of a packet.
use Rattle.std.specs.Prelude.{ℕ, zero, suc, ◌+◌, ◌-◌, ◌*◌, ◌/◌, ◌%◌, ◌^◌, List, Some, None, Option, map, slice_index}
use Rattle.std.specs.List.{range_with_len}
use Rattle.service.specs.declared.rates.Rate.{Rate}
use Rattle.service.specs.Rates.{rate_is}
use Rattle.packet_layout.specs.declared.code_bits.CodeBit.{CodeBit}
use Rattle.packet_layout.specs.CodeBits.{index}
use Rattle.packet_layout.specs.Layouts.{at, layout}

-- bit b of a number
abbrev pub bit : ℕ → ℕ → ℕ
bit n b = n / 2 ^ b % 2

-- the bit at a place of some bytes, counted from 0 at the top bit of byte 0
abbrev pub bit_at : List ℕ → ℕ → ℕ
bit_at bytes k = bit (slice_index bytes (k / 8)) (7 - k % 8)

-- a code bit of the codes of a frame in order; 0 for none
abbrev pub value : List ℕ → Option CodeBit → ℕ
value list None = 0
value list (Some c) = bit (slice_index list (index c)) c.bit

-- what a place of the packet of these codes carries; 0 at a spare place
unfoldable pub carried : Rate → List ℕ → ℕ → ℕ
carried rate list k = value list (at (layout rate) k)

-- the number of n bits, the highest first
unfoldable pub number_of : (ℕ → ℕ) → ℕ → ℕ
number_of f zero = 0
number_of f (suc n) = number_of f n * 2 + f n

-- a byte of the packet of the 36 codes in order, and the packet
unfoldable pub byte_of : Rate → List ℕ → ℕ → ℕ
byte_of rate list j = number_of (λ t. carried rate list (8 * j + t)) 8

unfoldable pub packet_of : Rate → List ℕ → List ℕ
packet_of rate list = map (byte_of rate list) (range_with_len 0 (rate_is rate).bytes)
