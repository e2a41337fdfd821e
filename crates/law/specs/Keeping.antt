-- What every run from a new link keeps, and what a link's own line delivers.
use Rattle.std.specs.Prelude.{◌≡◌, ℕ, ◌+◌, ◌<◌, ◌≤◌, true, List, [], ◌∷◌, ◌++◌, length, map, Ok, Err, Some, None}
use Rattle.std.specs.Prelude.{Option}
use Rattle.service.specs.Queues.{max_places}
use Rattle.lsp.specs.States.{InRange}
use Rattle.rules.specs.Arrivals.{Arrival, are_lawful, blank_arrival}
use Rattle.rules.specs.Sending.{Sent, arrival_sent}
use Rattle.rules.specs.Links.{Line, Link, Source, empty_line, new_link, this_line, to_come, to_come_from}
use Rattle.law.specs.Runs.{Call, CallMade, Send, Blank, Disturb, Take, RestartSender, RestartReceiver, New, Run}
use Rattle.law.specs.Runs.{arrivals_taken, frames_sent, now}

-- a line has at most 256 places, and no more arrivals wait on it than it has
pub record WithinPlaces (line : Line) : Type 0 where
  pub places : line.places ≤ max_places
  pub fits : length line.waiting ≤ line.places

-- what is so of every link that a run from a new one leads to
pub record Kept (s : Link) : Type 0 where
  -- no memory reaches 2^33 in size, and each end has ten
  pub sender : InRange s.sender.memories × (length s.sender.memories ≡ 10)
  pub receiver : InRange s.receiver.memories × (length s.receiver.memories ≡ 10)
  pub seed : s.sender.seed < 65536
  -- the arrivals that wait and those to come are lawful
  pub waiting : are_lawful s.line.waiting ≡ true
  pub supply : are_lawful (to_come s) ≡ true

-- every run from a new link leads to a link that keeps this, and to a line within its places if it was so at first
pub record EveryRunKeeps : Type 0 where
  pub link : (s : Link) (h : List CallMade) → New s → Run s h → Kept (now s h)
  pub line : (s : Link) (h : List CallMade) → Run s h → WithinPlaces s.line → WithinPlaces (now s h).line

-- a link that is made of lawful arrivals is new
abbrev pub MadeLinksAreNew : Type 0
MadeLinksAreNew =
    (line : Line) (source : Source) → are_lawful line.waiting ≡ true → are_lawful (to_come_from source line) ≡ true
    → New (new_link line source)

-- a line on which nothing waits, in a memory of any length, is within its places
abbrev pub EmptyLinesAreWithinPlaces : Type 0
EmptyLinesAreWithinPlaces = (n : ℕ) → WithinPlaces (empty_line n)

-- the arrival that a frame sent puts on the line
abbrev pub arrival_of_frame : Option Sent → Arrival
arrival_of_frame (Some f) = arrival_sent f
arrival_of_frame None = blank_arrival

-- a call that disturbs nothing
abbrev pub DisturbsNothing : Call → Type 0
DisturbsNothing (Send n p r) = Unit {0}
DisturbsNothing (Blank r) = Unit {0}
DisturbsNothing (Disturb n c bytes (Ok u)) = ⊥
DisturbsNothing (Disturb n c bytes (Err e)) = Unit {0}
DisturbsNothing (Take x) = Unit {0}
DisturbsNothing RestartSender = Unit {0}
DisturbsNothing RestartReceiver = Unit {0}

-- no call of a history disturbs anything
abbrev pub IsUndisturbed : List CallMade → Type 0
IsUndisturbed [] = Unit {0}
IsUndisturbed (m ∷ h) = DisturbsNothing m.call × IsUndisturbed h

-- a link takes from its own line, on which nothing waited at first
pub record StartsEmpty (s : Link) : Type 0 where
  pub source : s.source ≡ this_line
  pub waiting : s.line.waiting ≡ []

-- what was taken and what waits are as many arrivals as frames were sent; if nothing was disturbed, they are those that
-- were put on the line, in the order in which they were sent
pub record LineDelivers (s : Link) (h : List CallMade) : Type 0 where
  pub many : length (frames_sent h) ≡ length (arrivals_taken h) + length (now s h).line.waiting
  pub undisturbed :
      IsUndisturbed h
      → map (λ f. arrival_of_frame f.what) (frames_sent h) ≡ map (λ g. g.what.arrival) (arrivals_taken h)
      ++ (now s h).line.waiting

-- so it is after every run
abbrev pub OwnLineDelivers : Type 0
OwnLineDelivers = (s : Link) (h : List CallMade) → StartsEmpty s → Run s h → LineDelivers s h
