-- One bit of a Rate 1 packet changed, and a place of the cyclic code corrected in the packet's own bytes.
use Rattle.std.specs.Prelude.{◌≡◌, ◌≢◌, ℕ, ◌-◌, ◌/◌, ◌%◌, ◌^◌, ◌<◌, List, length, bit_xor, slice_index, slice_set}
use Rattle.service.specs.declared.rates.Rate.TheVariants.{Full}
use Rattle.service.specs.Rates.{rate_is}
use Rattle.cyclic.specs.Words.{corrected}
use Rattle.packet_layout.specs.Guarded.{guarded_bits}
use Rattle.packet_layout.specs.Laws.{place}
use Rattle.packet.specs.Bits.{bit_at}
use Rattle.packet.specs.Calls.{Lawful}
use Rattle.packet.specs.CheckBits.{word_of}

-- the bit of a packet by its number, 170 to 0; bit 170 is the top bit of byte 0
abbrev pub packet_bit : ℕ → List ℕ → ℕ
packet_bit n packet = bit_at packet (place Full n)

-- the packet with the bit at place k changed, counted from the top bit of byte 0: bit 7 - k % 8 of byte k / 8
abbrev pub with_place_changed : ℕ → List ℕ → List ℕ
with_place_changed k packet = slice_set packet (k / 8) (bit_xor (slice_index packet (k / 8)) (2 ^ (7 - k % 8)))

-- the packet with the bit of this number changed
unfoldable pub with_bit_changed : ℕ → List ℕ → List ℕ
with_bit_changed n packet = with_place_changed (place Full n) packet

-- the number of the packet bit that is x^p of the 28 bits of the cyclic code: the guarded bits are listed from x^27
-- down
abbrev pub bit_of_power : ℕ → ℕ
bit_of_power p = slice_index guarded_bits (27 - p)

-- the packet with x^p of the 28 corrected
abbrev pub corrected_packet : ℕ → List ℕ → List ℕ
corrected_packet p packet = with_bit_changed (bit_of_power p) packet

-- a packet with one bit changed: that bit is the other one, the bit at each other place is as before, spare bits too,
-- and a second change takes it back; bytes stay bytes, and a lawful packet stays lawful
pub record OneBitChanged (packet : List ℕ) (n : ℕ) : Type 0 where
  pub size : length (with_bit_changed n packet) ≡ length packet
  pub bit : packet_bit n (with_bit_changed n packet) ≡ bit_xor (packet_bit n packet) 1
  pub others : (k : ℕ) → k ≢ place Full n → bit_at (with_bit_changed n packet) k ≡ bit_at packet k
  pub back : with_bit_changed n (with_bit_changed n packet) ≡ packet
  pub bytes : ((j : ℕ) → slice_index packet j < 256) → (j : ℕ) → slice_index (with_bit_changed n packet) j < 256
  pub lawful : Lawful Full packet → Lawful Full (with_bit_changed n packet)

-- each bit of a packet can be changed so, and to correct a packet is to correct its word
pub record BitsChange : Type 0 where
  pub changed :
      (packet : List ℕ) (n : ℕ) → length packet ≡ (rate_is Full).bytes → n < (rate_is Full).bits
      → OneBitChanged packet n
  pub corrected :
      (packet : List ℕ) (p : ℕ) → length packet ≡ (rate_is Full).bytes → p < 28
      → word_of (corrected_packet p packet) ≡ corrected (word_of packet) p
