-- How many of the guarded bits of a Rate 1 packet changed on the way, counted over its bytes.
use Rattle.std.specs.Prelude.{◌≡◌, ℕ, ◌+◌, ◌<◌, if◌then◌else◌, ◌==◌, List, [], ◌∷◌, take, slice_get}
use Rattle.packet_layout.specs.Guarded.{guarded_bits, guarded_code_bits}
use Rattle.packet.specs.declared.codes.CodeNumbers.{CodeNumbers}
use Rattle.packet.specs.Bits.{value}
use Rattle.packet.specs.Changes.{packet_bit}
use Rattle.packet.specs.Codes.{in_order}

-- in how many of the packet bits of these numbers two packets differ
unfoldable pub differing_bits : List ℕ → List ℕ → List ℕ → ℕ
differing_bits [] xs ys = 0
differing_bits (n ∷ ns) xs ys = (if packet_bit n xs == packet_bit n ys then 0 else 1) + differing_bits ns xs ys

-- how many of the 29 guarded bits of a packet changed on the way
abbrev pub changed_guarded : List ℕ → List ℕ → ℕ
changed_guarded sent arrived = differing_bits guarded_bits sent arrived

-- how many besides PCB[0], which is the last of them
abbrev pub changed_besides_pcb0 : List ℕ → List ℕ → ℕ
changed_besides_pcb0 sent arrived = differing_bits (take 28 guarded_bits) sent arrived

-- two records of codes have the same 18 guarded code bits
abbrev pub SameGuardedCodeBits : CodeNumbers → CodeNumbers → Type 0
SameGuardedCodeBits c d =
    (i : ℕ) → i < 18
    → value (in_order c) (slice_get guarded_code_bits i) ≡ value (in_order d) (slice_get guarded_code_bits i)
