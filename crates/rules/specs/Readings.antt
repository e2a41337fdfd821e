-- How an arrival is read (IS-96, A.1.4.8.6), and what it does to the receiver.
use Rattle.std.specs.Prelude.{◌≡◌, ◌≢◌, ◌⊎◌, ℕ, ◌-◌, ◌<◌, min, List, Some, None, Option, MatchOption, replicate}
use Rattle.service.specs.declared.rates.Rate.{Rate}
use Rattle.service.specs.declared.rates.Rate.TheVariants.{Full as Rate1, Half as Rate1/2, Quarter as Rate1/4}
use Rattle.service.specs.declared.rates.Rate.TheVariants.{Eighth as Rate1/8}
use Rattle.service.specs.declared.categories.Category.{Category}
use Rattle.service.specs.declared.categories.Category.TheVariants.{Blank, Eighth, Quarter, Half, Full, Suspect, Erasure}
use Rattle.service.specs.declared.readings.Letter.{Letter}
use Rattle.service.specs.declared.readings.Letter.TheVariants.{C, P, S, D, B, E}
use Rattle.service.specs.Letters.{Meaning, letter_is}
use Rattle.service.specs.Letters.Meaning.{read, blank as is_blank, erased}
use Rattle.service.specs.Rates.{rate_is}
use Rattle.lsp.specs.Histories.{Event, packet, erasure, blank}
use Rattle.cyclic.specs.Words.{syndrome, Corrects}
use Rattle.packet.specs.declared.codes.CodeNumbers.{CodeNumbers}
use Rattle.packet.specs.Bits.{bit_at}
use Rattle.packet.specs.Calls.{Holds}
use Rattle.packet.specs.Changes.{corrected_packet}
use Rattle.packet.specs.CheckBits.{word_of}
use Rattle.figures.specs.declared.codebook.CodebookFigure.{CodebookFigure}
use Rattle.figures.specs.Pitch.{DecodesPitches, no_pitch, pair_at}
use Rattle.figures.specs.Codebook.{DecodesCodebooks}

-- what was read of a packet: its rate, its codes, and the pitch pairs and codebook figures that they stand for, in
-- lists of four and of eight subframes, of which the rate may have fewer
pub record Reading : Type 0 where
  pub rate : Rate
  pub codes : CodeNumbers
  pub pitches : List (ℕ × ℕ)
  pub codebooks : List (Option CodebookFigure)

-- pitch off: no pitch in any subframe of a frame
abbrev pub pitch_off : List (ℕ × ℕ)
pitch_off = replicate 4 no_pitch

-- r is what these bytes are read as at rate q, but for its pitch
pub record ReadsCodes (q : Rate) (bytes : List ℕ) (r : Reading) : Type 0 where
  pub rate : r.rate ≡ q
  pub codes : Holds q bytes r.codes
  pub codebooks : DecodesCodebooks q r.codes.codebook r.codebooks

-- read with this letter, and with the pitch of the codes
abbrev pub IsReadWithPitch : Letter → Rate → List ℕ → Letter → Option Reading → Type 0
IsReadWithPitch letter rate bytes l x =
    (l ≡ letter)
    × MatchOption x ⊥ (λ r. ReadsCodes rate bytes r × DecodesPitches rate r.codes.pitch r.pitches)

-- read at Rate 1 with this letter, and with pitch off
abbrev pub IsReadWithPitchOff : Letter → List ℕ → Letter → Option Reading → Type 0
IsReadWithPitchOff letter bytes l x =
    (l ≡ letter) × MatchOption x ⊥ (λ r. ReadsCodes Rate1 bytes r × (r.pitches ≡ pitch_off))

-- this letter, and nothing read
abbrev pub IsNotRead : Letter → Letter → Option Reading → Type 0
IsNotRead letter l x = (l ≡ letter) × (x ≡ None)

-- all bits of a packet are ones
abbrev pub AllOnes : Rate → List ℕ → Type 0
AllOnes rate bytes = (k : ℕ) → k < (rate_is rate).bits → bit_at bytes k ≡ 1

-- a suspect packet is read as it came if its syndrome is 0, whatever PCB[0] is
abbrev pub ReadsSuspectAsItCame : List ℕ → Letter → Option Reading → Type 0
ReadsSuspectAsItCame bytes l x = (syndrome (word_of bytes) ≡ 0) × IsReadWithPitchOff P bytes l x

-- a suspect packet is read with one bit corrected if the parity is odd and the syndrome points at that bit
abbrev pub ReadsSuspectCorrected : List ℕ → Letter → Option Reading → Type 0
ReadsSuspectCorrected bytes l x =
    (p : ℕ) × Corrects (word_of bytes) p × IsReadWithPitchOff S (corrected_packet p bytes) l x

-- a suspect packet is not read if its syndrome is not 0 and no bit is to be corrected
abbrev pub ReadsSuspectNot : List ℕ → Letter → Option Reading → Type 0
ReadsSuspectNot bytes l x =
    (syndrome (word_of bytes) ≢ 0) × ((p : ℕ) → Corrects (word_of bytes) p → ⊥) × IsNotRead D l x

-- the letter l of an arrival of each category, and what is read of it, x
abbrev pub Reads : Category → List ℕ → Letter → Option Reading → Type 0
Reads Blank bytes l x = IsNotRead B l x
Reads Eighth bytes l x =
    (AllOnes Rate1/8 bytes × IsNotRead D l x) ⊎ ((AllOnes Rate1/8 bytes → ⊥) × IsReadWithPitch C Rate1/8 bytes l x)
Reads Quarter bytes l x = IsReadWithPitch C Rate1/4 bytes l x
Reads Half bytes l x = IsReadWithPitch C Rate1/2 bytes l x
Reads Full bytes l x =
    ((syndrome (word_of bytes) ≡ 0) × IsReadWithPitch C Rate1 bytes l x)
    ⊎ ((syndrome (word_of bytes) ≢ 0) × IsNotRead D l x)
Reads Suspect bytes l x =
    ReadsSuspectAsItCame bytes l x ⊎ (ReadsSuspectCorrected bytes l x ⊎ ReadsSuspectNot bytes l x)
Reads Erasure bytes l x = IsNotRead E l x

-- what a packet that was read is to the memories of an end; where its letter says that it was read, there is a reading
abbrev pub packet_read : Option Reading → Event
packet_read (Some r) = packet r.rate r.codes.lsp
packet_read None = erasure

-- what an arrival is to the receiver's memories, by what its letter means
abbrev pub event_of_meaning : Meaning → Option Reading → Event
event_of_meaning read x = packet_read x
event_of_meaning is_blank x = blank
event_of_meaning erased x = erasure

abbrev pub event_read : Letter → Option Reading → Event
event_read l x = event_of_meaning (letter_is l).meaning x

-- the pair of the last pitch subframe; Rate 1/8 has none, and its pitch is off
abbrev pub last_pitch : Rate → List (ℕ × ℕ) → ℕ × ℕ
last_pitch Rate1/8 pairs = no_pitch
last_pitch Rate1/4 pairs = pair_at pairs ((rate_is Rate1/4).pitch_subframes - 1)
last_pitch Rate1/2 pairs = pair_at pairs ((rate_is Rate1/2).pitch_subframes - 1)
last_pitch Rate1 pairs = pair_at pairs ((rate_is Rate1).pitch_subframes - 1)

-- a blank keeps the lag, and lowers a gain above 4 quarters to 4
abbrev pub lowered : ℕ × ℕ → ℕ × ℕ
lowered (lag, gain) = (lag, min gain 4)

-- the receiver's pitch pair after a packet that was read
abbrev pub pitch_read : Option Reading → ℕ × ℕ
pitch_read (Some r) = last_pitch r.rate r.pitches
pitch_read None = no_pitch

-- the receiver's pitch pair after an arrival, by what its letter means
abbrev pub pitch_of_meaning : Meaning → Option Reading → ℕ × ℕ → ℕ × ℕ
pitch_of_meaning read x pair = pitch_read x
pitch_of_meaning is_blank x pair = lowered pair
pitch_of_meaning erased x pair = no_pitch

abbrev pub pitch_after : Letter → Option Reading → ℕ × ℕ → ℕ × ℕ
pitch_after l x pair = pitch_of_meaning (letter_is l).meaning x pair
