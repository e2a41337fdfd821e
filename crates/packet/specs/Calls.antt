-- What packing and unpacking answer, for every input.
use Rattle.std.specs.Prelude.{◌≡◌, ◌≢◌, ℕ, ◌<◌, ◌≤◌, ◌⊎◌, false, List, ◌++◌, Some, Result, MatchResult, length, drop}
use Rattle.service.specs.declared.rates.Rate.{Rate}
use Rattle.service.specs.declared.refusals.Refusal.{Refusal}
use Rattle.service.specs.Categories.{category_of_packet}
use Rattle.service.specs.Rates.{rate_is}
use Rattle.service.specs.Refusals.{refusal_is, refused}
use Rattle.service.specs.Tests.{spare_bits_set}
use Rattle.packet_layout.specs.declared.code_bits.CodeName.TheVariants.{Pcb}
use Rattle.packet_layout.specs.declared.code_bits.CodeBit.{CodeBit}
use Rattle.packet_layout.specs.Layouts.{at, layout}
use Rattle.packet.specs.declared.codes.CodeNumbers.{CodeNumbers}
use Rattle.packet.specs.Bits.{bit_at, packet_of, value}
use Rattle.packet.specs.CheckBits.{pcb_of}
use Rattle.packet.specs.Codes.{Within, in_order, list_of}

-- the bytes of the packet of some codes, with its check bits
abbrev pub packet : Rate → CodeNumbers → List ℕ
packet rate c = packet_of rate (list_of c (pcb_of rate c))

-- the packet is written from the buffer's start, the rest of the buffer is kept, and the packet's length is answered
pub record Packed (rate : Rate) (c : CodeNumbers) (before after : List ℕ) (n : ℕ) : Type 0 where
  pub room : (rate_is rate).bytes ≤ length before
  pub written : after ≡ packet rate c ++ drop (rate_is rate).bytes before
  pub length : n ≡ (rate_is rate).bytes

-- what packing codes of a rate answers: refusal 16 exactly if the buffer is too short, and then the buffer is as it was
abbrev pub PacksCodes : Rate → CodeNumbers → List ℕ → List ℕ → Result ℕ Refusal → Type 0
PacksCodes rate c before after r =
    MatchResult r (Packed rate c before after)
    (λ e. (after ≡ before) × ((refusal_is e ≡ refused 16) × (length before < (rate_is rate).bytes)))

-- these are no codes: the number names no rate, a code is too wide, or the rate lacks a code that is not zero
abbrev pub AreNotCodes : ℕ → CodeNumbers → Type 0
AreNotCodes number c = (rate : Rate) → (rate_is rate).number ≡ number → Within rate c → ⊥

-- what packing plain code numbers answers: refusal 17 exactly if they are no codes, whatever the buffer
abbrev pub Packs : ℕ → CodeNumbers → List ℕ → List ℕ → Result ℕ Refusal → Type 0
Packs number c before after r =
    ((rate : Rate) × ((rate_is rate).number ≡ number) × Within rate c × PacksCodes rate c before after r)
    ⊎ (AreNotCodes number c × (after ≡ before) × MatchResult r (λ _. ⊥) (λ e. refusal_is e ≡ refused 17))

-- the codes that a packet holds: each within its width, and each code bit that the packet carries is the packet's;
-- check bits are not looked at
pub record Holds (rate : Rate) (packet : List ℕ) (c : CodeNumbers) : Type 0 where
  pub within : Within rate c
  pub bits :
      (k : ℕ) (b : CodeBit) → at (layout rate) k ≡ Some b → b.name ≢ Pcb → value (in_order c) (Some b) ≡ bit_at packet k

-- the packet has the length of its rate, and its spare bits are zero
pub record Lawful (rate : Rate) (bytes : List ℕ) : Type 0 where
  pub length : length bytes ≡ (rate_is rate).bytes
  pub spare : spare_bits_set (category_of_packet rate) bytes ≡ false
