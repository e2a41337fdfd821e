-- The check bits of a Rate 1 packet, in its codes and in its bytes.
use Rattle.std.specs.Prelude.{ℕ, ◌%◌, ◌^◌, List, bit_xor, slice_index, slice_get}
use Rattle.service.specs.declared.rates.Rate.{Rate}
use Rattle.service.specs.declared.rates.Rate.TheVariants.{Full, Half, Quarter, Eighth}
use Rattle.cyclic.specs.Words.{sent, RightCheckBits}
use Rattle.packet_layout.specs.Guarded.{guarded_bits, guarded_code_bits}
use Rattle.packet_layout.specs.Laws.{place}
use Rattle.packet.specs.declared.codes.CodeNumbers.{CodeNumbers}
use Rattle.packet.specs.Codes.{in_order}
use Rattle.packet.specs.Bits.{bit_at, number_of, value}

-- a(x) of some codes in order: bit p of the number is the coefficient of x^p
unfoldable pub message_of : List ℕ → ℕ
message_of codes = number_of (λ i. value codes (slice_get guarded_code_bits i)) 18

-- PCB[1] to PCB[10] are inverted for transmission, and PCB[0] is not
abbrev pub inversion : ℕ
inversion = 0b111_1111_1110

-- PCB as it is transmitted, bit j for PCB[j]: the lowest eleven bits of the word that is sent for a(x), with the
-- inversion
abbrev pub transmitted : ℕ → ℕ
transmitted a = bit_xor (sent a % 2 ^ 11) inversion

-- PCB of a packet of these codes; only Rate 1 has it
abbrev pub pcb_of : Rate → CodeNumbers → ℕ
pcb_of Full c = transmitted (message_of (in_order c))
pcb_of Half c = 0
pcb_of Quarter c = 0
pcb_of Eighth c = 0

-- the guarded bits of a Rate 1 packet as one word, the inversion undone
unfoldable pub word_of : List ℕ → ℕ
word_of packet = bit_xor (number_of (λ i. bit_at packet (place Full (slice_index guarded_bits i))) 29) inversion

-- the check bits of a packet are right: those of its word are; at the other rates a packet has none, and is always
-- right
abbrev pub RightPacket : Rate → List ℕ → Type 0
RightPacket Full packet = RightCheckBits (word_of packet)
RightPacket Half packet = Unit {0}
RightPacket Quarter packet = Unit {0}
RightPacket Eighth packet = Unit {0}
