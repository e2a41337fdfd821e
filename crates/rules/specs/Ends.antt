-- The two ends of a link, and what a take does to the receiver.
use Rattle.std.specs.Prelude.{◌≡◌, ℕ, List, [], ◌∷◌, ℤ, Some, None, Option}
use Rattle.service.specs.declared.readings.Letter.{Letter}
use Rattle.lsp.specs.Histories.{after}
use Rattle.lsp.specs.States.{fresh, frequencies}
use Rattle.figures.specs.Pitch.{no_pitch}
use Rattle.rules.specs.Arrivals.{Arrival, HandsOver}
use Rattle.rules.specs.Readings.{Reading, Reads, event_read, pitch_after}

-- a receiver: ten LSP memories in grains, and the pitch pair of its last pitch subframe
pub record Receiver : Type 0 where
  pub memories : List ℤ
  pub pitch : ℕ × ℕ

-- a sender: the same, and the seed SD
pub record Sender : Type 0 where
  pub memories : List ℤ
  pub pitch : ℕ × ℕ
  pub seed : ℕ

-- a receiver that is new or restarted
abbrev pub new_receiver : Receiver
new_receiver = record { memories = fresh; pitch = no_pitch }

-- a sender that is new or restarted
abbrev pub new_sender : Sender
new_sender = record { memories = fresh; pitch = no_pitch; seed = 0 }

-- an arrival that was taken, and what take answers: the letter, the ten frequencies, and what was read
pub record Taken : Type 0 where
  pub arrival : Arrival
  pub letter : Letter
  pub frequencies : List ℤ
  pub reading : Option Reading

-- the receiver after it read an arrival with this letter
abbrev pub receiver_after : Letter → Option Reading → Receiver → Receiver
receiver_after l x e =
    record e { memories = after e.memories (event_read l x ∷ []); pitch = pitch_after l x e.pitch }

-- a receiver e reads the arrival that it was handed, and answers the frequencies of its memories after it
pub record Receives (e : Receiver) (x : Taken) (e' : Receiver) : Type 0 where
  pub read : Reads x.arrival.category x.arrival.bytes x.letter x.reading
  pub receiver : e' ≡ receiver_after x.letter x.reading e
  pub answer : x.frequencies ≡ frequencies e'.memories

-- a receiver e is handed the first arrival of a supply, and reads it
pub record TakesOne (e : Receiver) (supply : List Arrival) (x : Taken) (e' : Receiver) (rest : List Arrival)
    : Type 0 where
  pub first : HandsOver supply (Some x.arrival) rest
  pub received : Receives e x e'

-- what a take answers, with the receiver and the supply after it; of an empty supply none, and nothing is altered
abbrev pub Takes : Receiver → List Arrival → Option Taken → Receiver → List Arrival → Type 0
Takes e supply (Some x) e' rest = TakesOne e supply x e' rest
Takes e supply None e' rest = HandsOver supply None rest × (e' ≡ e)

-- the place that the caller of a take lends: afterwards it holds the arrival, with its bytes as they arrived; at none
-- it is as it was
abbrev pub place_after : Option Taken → Arrival → Arrival
place_after (Some x) place = x.arrival
place_after None place = place
