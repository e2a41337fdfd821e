-- Runs of calls on a link, and what is read off one.
use Rattle.std.specs.Prelude.{◌≡◌, ℕ, ◌+◌, true, List, [], ◌∷◌, ◌++◌, ℤ, Ok, Err, Some, None, Option}
use Rattle.std.specs.Prelude.{Result}
use Rattle.service.specs.declared.refusals.Refusal.{Refusal}
use Rattle.lsp.specs.Histories.{Event, blank, packet, restart}
use Rattle.rules.specs.Arrivals.{are_lawful}
use Rattle.rules.specs.Readings.{event_read}
use Rattle.rules.specs.Ends.{Taken, new_receiver, new_sender}
use Rattle.rules.specs.Sending.{Parameters, Sent}
use Rattle.rules.specs.Links.{Blanks, Disturbs, Link, Sends, TakesFromSource, to_come}

-- a call, with what it was given and what it answered
pub data Call : Type 0 where
  Send : ℕ → Parameters → Result Sent Refusal → Call
  Blank : Result Unit Refusal → Call
  Disturb : ℕ → ℕ → List ℕ → Result Unit Refusal → Call
  Take : Option Taken → Call
  RestartSender : Call
  RestartReceiver : Call

-- a step: one call takes a link from s to t, and alters nothing of it but the parts that its rule names
abbrev pub Step : Link → Call → Link → Type 0
Step s (Send n p r) t =
    Sends s.sender s.line n p r t.sender t.line × (t ≡ record s { sender = t.sender; line = t.line })
Step s (Blank r) t = Blanks s.sender s.line r t.sender t.line × (t ≡ record s { sender = t.sender; line = t.line })
Step s (Disturb n c bytes r) t = Disturbs s.line n c bytes r t.line × (t ≡ record s { line = t.line })
Step s (Take x) t = TakesFromSource s x t
Step s RestartSender t = t ≡ record s { sender = new_sender }
Step s RestartReceiver t = t ≡ record s { receiver = new_receiver }

-- a link is new if both ends are, whatever lawful arrivals wait on its line and are to come
pub record New (s : Link) : Type 0 where
  pub sender : s.sender ≡ new_sender
  pub receiver : s.receiver ≡ new_receiver
  pub waiting : are_lawful s.line.waiting ≡ true
  pub supply : are_lawful (to_come s) ≡ true

-- a call that was made, and the link right after it
pub record CallMade : Type 0 where
  pub call : Call
  pub link : Link

-- the link after the calls of a history, from s; in a history the latest call stands first
abbrev pub now : Link → List CallMade → Link
now s [] = s
now s (m ∷ h) = m.link

-- the history is a run from s: each call starts where the one before it ended
abbrev pub Run : Link → List CallMade → Type 0
Run s [] = Unit {0}
Run s (m ∷ h) = Step (now s h) m.call m.link × Run s h

-- ---- the frames of each end

-- what a call is to one end: a frame of it, a restart, or nothing
pub data Role (A : Type 0) : Type 0 where
  frame : A → Role A
  restarts : Role A
  nothing : Role A

-- the sender's frames are the accepted sends, shown as Some, and the accepted blanks, shown as None
abbrev pub sender_role : Call → Role (Option Sent)
sender_role (Send n p (Ok f)) = frame (Some f)
sender_role (Send n p (Err e)) = nothing
sender_role (Blank (Ok u)) = frame None
sender_role (Blank (Err e)) = nothing
sender_role (Disturb n c bytes r) = nothing
sender_role (Take x) = nothing
sender_role RestartSender = restarts
sender_role RestartReceiver = nothing

-- the receiver's frames are the takes that answered other than none
abbrev pub receiver_role : Call → Role Taken
receiver_role (Send n p r) = nothing
receiver_role (Blank r) = nothing
receiver_role (Disturb n c bytes r) = nothing
receiver_role (Take (Some x)) = frame x
receiver_role (Take None) = nothing
receiver_role RestartSender = nothing
receiver_role RestartReceiver = restarts

-- what a frame sent is to the sender's memories
abbrev pub sent_event : Option Sent → Event
sent_event (Some f) = packet f.rate f.codes.lsp
sent_event None = blank

-- what an arrival taken is to the receiver's memories
abbrev pub taken_event : Taken → Event
taken_event x = event_read x.letter x.reading

-- one end of a link: which calls are its frames and restarts, what a frame is to its memories, and where a link has
-- these
pub record LinkEnd (A : Type 0) : Type 0 where
  pub role : Call → Role A
  pub event : A → Event
  pub memories : Link → List ℤ

-- the sending end
abbrev pub the_sender : LinkEnd (Option Sent)
the_sender = record { role = sender_role; event = sent_event; memories = λ s. s.sender.memories }

-- the receiving end
abbrev pub the_receiver : LinkEnd Taken
the_receiver = record { role = receiver_role; event = taken_event; memories = λ s. s.receiver.memories }

-- what a call of this role is to the memories
abbrev pub events_of_role : {A : Type 0} → (A → Event) → Role A → List Event
events_of_role event (frame a) = event a ∷ []
events_of_role event restarts = restart ∷ []
events_of_role event nothing = []

-- all that happened to the memories of an end, the latest first
abbrev pub events_at : {A : Type 0} → LinkEnd A → List CallMade → List Event
events_at end [] = []
events_at end (m ∷ h) = events_of_role end.event (end.role m.call) ++ events_at end h

-- how many restarts a call of this role is
abbrev pub restarts_of_role : {A : Type 0} → Role A → ℕ
restarts_of_role (frame a) = 0
restarts_of_role restarts = 1
restarts_of_role nothing = 0

-- how often an end was restarted
abbrev pub restarts_at : {A : Type 0} → LinkEnd A → List CallMade → ℕ
restarts_at end [] = 0
restarts_at end (m ∷ h) = restarts_of_role (end.role m.call) + restarts_at end h

-- a frame of an end: what it is, the end's memories right after it, and how often the end was restarted before it, its
-- era
pub record Frame (A : Type 0) : Type 0 where
  pub what : A
  pub memories : List ℤ
  pub era : ℕ

-- the frame that a call of this role is, with memories m after it and n restarts before it
abbrev pub frame_of_role : {A : Type 0} → Role A → List ℤ → ℕ → List (Frame A)
frame_of_role (frame a) m n = record { what = a; memories = m; era = n } ∷ []
frame_of_role restarts m n = []
frame_of_role nothing m n = []

-- the frames of an end over a whole run, the first first
abbrev pub frames_at : {A : Type 0} → LinkEnd A → List CallMade → List (Frame A)
frames_at end [] = []
frames_at end (m ∷ h) = frames_at end h ++ frame_of_role (end.role m.call) (end.memories m.link) (restarts_at end h)

-- the frames sent
abbrev pub frames_sent : List CallMade → List (Frame (Option Sent))
frames_sent h = frames_at the_sender h

-- the arrivals taken
abbrev pub arrivals_taken : List CallMade → List (Frame Taken)
arrivals_taken h = frames_at the_receiver h
