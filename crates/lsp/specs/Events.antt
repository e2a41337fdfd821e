-- The history that a list of events of the code stands for.
use Rattle.std.specs.Prelude.{List, [], ◌∷◌, map, reverse}
use Rattle.lsp.specs.declared.histories.Event.{Event as CodeEvent}
use Rattle.lsp.specs.declared.histories.Event.TheVariants.{Packet, Erasure, Blank, Restart}
use Rattle.lsp.specs.Histories.{Event, packet, erasure, blank, restart}

abbrev pub event_of : CodeEvent → Event
event_of (Packet codes) = packet codes.rate codes.codes
event_of Erasure = erasure
event_of Blank = blank
event_of Restart = restart

abbrev pub one_event : CodeEvent → List Event
one_event event = event_of event ∷ []

-- the events stand in the order in which they came; a history has the newest first
abbrev pub history : List CodeEvent → List Event
history events = reverse (map event_of events)
