-- What packing and unpacking promise of one another.
use Rattle.std.specs.Prelude.{◌≡◌, ℕ, ◌*◌, ◌^◌, ◌<◌, List, length, Result, MatchResult, slice_index}
use Rattle.service.specs.declared.rates.Rate.{Rate}
use Rattle.service.specs.declared.rates.Rate.TheVariants.{Full}
use Rattle.service.specs.declared.refusals.Fault.{Fault}
use Rattle.service.specs.Rates.{rate_is}
use Rattle.cyclic.specs.Words.{message, sent}
use Rattle.packet.specs.declared.codes.CodeNumbers.{CodeNumbers}
use Rattle.packet.specs.declared.codes.Codes.{Codes}
use Rattle.packet.specs.Bits.{bit_at, carried}
use Rattle.packet.specs.Calls.{Holds, Lawful, packet}
use Rattle.packet.specs.CheckBits.{RightPacket, message_of, pcb_of, word_of}
use Rattle.packet.specs.Codes.{Within, in_order, list_of}
use Rattle.packet.specs.Unpacking.{UnpacksCodes}

-- the packet of some codes has the bytes of its rate, each place of it has the code bit that it carries, and 0 if it is
-- spare, and its bytes are below 256
pub record PacketBits (rate : Rate) (c : CodeNumbers) : Type 0 where
  pub size : length (packet rate c) ≡ (rate_is rate).bytes
  pub bits :
      (k : ℕ) → k < 8 * (rate_is rate).bytes → bit_at (packet rate c) k ≡ carried rate (list_of c (pcb_of rate c)) k
  pub bytes : (j : ℕ) → slice_index (packet rate c) j < 256

-- it is so at each rate, for any codes
abbrev pub EachBitOfAPacket : Type 0
EachBitOfAPacket = (rate : Rate) (c : CodeNumbers) → PacketBits rate c

-- the packet of codes of a rate is lawful, its check bits are right, it holds these codes and no others, and unpacking
-- it answers these codes
pub record HoldsExactly (rate : Rate) (c : CodeNumbers) : Type 0 where
  pub lawful : Lawful rate (packet rate c)
  pub right : RightPacket rate (packet rate c)
  pub holds : Holds rate (packet rate c) c
  pub only : (d : CodeNumbers) → Holds rate (packet rate c) d → d ≡ c
  pub answer :
      (r : Result Codes Fault) → UnpacksCodes rate (packet rate c) r
      → MatchResult r (λ d. (d.rate ≡ rate) × (d.numbers ≡ c)) (λ _. ⊥)

-- unpacking a packed record returns the record
abbrev pub UnpackingReturnsTheCodes : Type 0
UnpackingReturnsTheCodes = (rate : Rate) (c : CodeNumbers) → Within rate c → HoldsExactly rate c

-- bytes hold one record of codes at each rate: there is one, and no two
pub record OneRecord (rate : Rate) (bytes : List ℕ) : Type 0 where
  pub some : (c : CodeNumbers) × Holds rate bytes c
  pub only : (c d : CodeNumbers) → Holds rate bytes c → Holds rate bytes d → c ≡ d

abbrev pub OneRecordInEachPacket : Type 0
OneRecordInEachPacket = (rate : Rate) (bytes : List ℕ) → OneRecord rate bytes

-- packing an unpacked packet returns the packet, if its check bits are right
abbrev pub PackingReturnsThePacket : Type 0
PackingReturnsThePacket =
    (rate : Rate) (bytes : List ℕ) (c : CodeNumbers) → ((j : ℕ) → slice_index bytes j < 256) → Lawful rate bytes
    → RightPacket rate bytes → Holds rate bytes c → packet rate c ≡ bytes

-- the guarded bits of a Rate 1 packet as one word: any bytes have a word of 29 bits, its message is a(x) of the codes
-- that they hold, and the word of the packet of some codes is the one that is sent for their a(x)
pub record GuardedWord : Type 0 where
  pub bits : (bytes : List ℕ) → word_of bytes < 2 ^ 29
  pub message :
      (bytes : List ℕ) (c : CodeNumbers) → Holds Full bytes c → message (word_of bytes) ≡ message_of (in_order c)
  pub sent : (c : CodeNumbers) → Within Full c → word_of (packet Full c) ≡ sent (message_of (in_order c))
