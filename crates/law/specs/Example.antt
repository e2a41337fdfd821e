-- That the law speaks of something: a run in which the premises of (a) and of (c) hold.
use Rattle.std.specs.Prelude.{◌≡◌, ℕ, ◌<◌, List, ◌-ℤ◌, pos, None, MatchOption, slice_index_or, unsigned_abs}
use Rattle.service.specs.declared.categories.Category.{Category}
use Rattle.service.specs.declared.categories.Category.TheVariants.{Full, Suspect}
use Rattle.service.specs.declared.readings.Letter.{Letter}
use Rattle.service.specs.declared.readings.Letter.TheVariants.{B, C, P, S, D}
use Rattle.rules.specs.GuardedBits.{changed_besides_pcb0, changed_guarded}
use Rattle.rules.specs.Ends.{Taken}
use Rattle.rules.specs.Sending.{Sent}
use Rattle.rules.specs.Links.{Link}
use Rattle.law.specs.Runs.{CallMade, New, Run}
use Rattle.law.specs.Law.{AtMostFourChanged, InARow, Paired}
use Rattle.law.specs.Keeping.{StartsEmpty}

-- frame n is a packet at Rate 1 that was taken in this category, with this letter, after so many of the 29 guarded bits
-- changed on the way, and so many besides PCB[0]
pub record ArrivesWithChanges (h : List CallMade) (n : ℕ) (category : Category) (l : Letter) (changed besides_pcb0 : ℕ)
    : Type 0 where
  pub sent : Sent
  pub taken : Taken
  pub few : AtMostFourChanged h n sent taken
  pub arrives : taken.arrival.category ≡ category
  pub letter : taken.letter ≡ l
  pub guarded : changed_guarded sent.bytes taken.arrival.bytes ≡ changed
  pub besides : changed_besides_pcb0 sent.bytes taken.arrival.bytes ≡ besides_pcb0

-- frame n is such a packet, and it was read with the codes that were sent
pub record IsReadWithChanges (h : List CallMade) (n : ℕ) (category : Category) (l : Letter) (changed besides_pcb0 : ℕ)
    : Type 0 where
  pub arrives : ArrivesWithChanges h n category l changed besides_pcb0
  pub codes : MatchOption arrives.taken.reading ⊥ (λ r. r.codes ≡ arrives.sent.codes)

-- frame n is a blank, taken as a blank
pub record TakenAsBlank (h : List CallMade) (n : ℕ) : Type 0 where
  pub pair : Paired h n
  pub blank : (pair.sent.what ≡ None) × (pair.taken.what.letter ≡ B)

-- frame n is in these eras of the ends, and right after it was sent, and taken, the memories of some LSP are more than
-- ten grains apart
pub record MemoriesApart (h : List CallMade) (n sender_era receiver_era : ℕ) : Type 0 where
  pub pair : Paired h n
  pub eras : (pair.sent.era ≡ sender_era) × (pair.taken.era ≡ receiver_era)
  pub lsp : ℕ
  pub apart :
      10
      < unsigned_abs (slice_index_or pair.sent.memories lsp (pos 0) -ℤ slice_index_or pair.taken.memories lsp (pos 0))

-- A run of a new link that takes from its own line, on which nothing waits. The receiver is restarted once before it
-- takes arrival 2, and the memories are apart right after frame 2. Frames 2 to 258 are 256 packets in a row, and frame
-- 3, a blank. Of these packets frame 2 arrives with no guarded bit changed; frame 4 with one of the 28 bits changed, and
-- is corrected; frame 5 with PCB[0] changed, and is read. Frame 259 arrives with two wrong guarded bits, and is erased.
pub record ExampleRun : Type 0 where
  pub start : Link
  pub history : List CallMade
  pub empty : StartsEmpty start
  pub new : New start
  pub run : Run start history
  pub row : InARow history 2 256
  pub apart : MemoriesApart history 2 0 1
  pub plain : IsReadWithChanges history 2 Full C 0 0
  pub blank : TakenAsBlank history 3
  pub corrected : IsReadWithChanges history 4 Suspect S 1 1
  pub pcb0_wrong : IsReadWithChanges history 5 Suspect P 1 0
  pub erased : ArrivesWithChanges history 259 Suspect D 2 1
