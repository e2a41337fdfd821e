-- Every call has an answer on every input, and only one.
use Rattle.std.specs.Prelude.{◌≡◌, ℕ, ◌+◌, Bool, true, is_some, List, ◌++◌, drop, length, map, reverse, take as first}
use Rattle.std.specs.Prelude.{Ok, Err, Some, None, Option, Result}
use Rattle.service.specs.declared.categories.Category.{Category}
use Rattle.service.specs.declared.rates.Rate.{Rate}
use Rattle.service.specs.declared.readings.Letter.{Letter}
use Rattle.service.specs.declared.readings.Letter.TheVariants.{C}
use Rattle.service.specs.declared.refusals.Fault.{Fault}
use Rattle.service.specs.declared.refusals.Refusal.{Refusal}
use Rattle.service.specs.Letters.{is_read}
use Rattle.service.specs.Refusals.{Answer}
use Rattle.figures.specs.FrameLaws.{FiguresReadAsSent, PairsReadAsSent}
use Rattle.rules.specs.Arrivals.{Arrival, Counts, HandedOver, HandsOver, MakesArrival, MakesPacket, are_bytes}
use Rattle.rules.specs.Readings.{Reading, Reads}
use Rattle.rules.specs.Ends.{Receiver, Receives, Sender, Taken, Takes, place_after}
use Rattle.rules.specs.Sending.{AreComplete, CodesFrame, Parameters, Sent, arrival_sent}
use Rattle.rules.specs.Links.{Line, Link, SendAnswers, link_after_take, to_come}
use Rattle.rules.specs.Pages.{PageText, Prints}
use Rattle.rules.specs.Rows.{PageRows, Row, RunAnswer, RunState, RunsTakes, StartsPage, TakesAll}
use Rattle.law.specs.Runs.{Call, CallMade, Send, Blank, Disturb, Take, RestartSender, RestartReceiver, Run, Step, now}

-- ---- arrivals

-- the number of a category and bytes make one arrival, or have one fault
pub record OneArrivalOrFault : Type 0 where
  pub some :
      (place c : ℕ) (bytes : List ℕ) → are_bytes bytes ≡ true
      → (r : Result Arrival Fault) × MakesArrival (λ a. a) place c bytes r
  pub only :
      (place c : ℕ) (bytes : List ℕ) (r r' : Result Arrival Fault) → MakesArrival (λ a. a) place c bytes r
      → MakesArrival (λ a. a) place c bytes r' → r ≡ r'

-- a category, which is known, and bytes make one arrival, or have one fault
pub record OnePacketOrFault : Type 0 where
  pub some :
      (place : ℕ) (category : Category) (bytes : List ℕ) → are_bytes bytes ≡ true
      → (r : Result Arrival Fault) × MakesPacket (λ a. a) place category bytes r
  pub only :
      (place : ℕ) (category : Category) (bytes : List ℕ) (r r' : Result Arrival Fault)
      → MakesPacket (λ a. a) place category bytes r → MakesPacket (λ a. a) place category bytes r' → r ≡ r'

-- every arrival is read in one way, whatever its bytes; and something is read exactly if its letter says so
pub record OneReadingOfEachArrival : Type 0 where
  pub some : (category : Category) (bytes : List ℕ) → (l : Letter) × (x : Option Reading) × Reads category bytes l x
  pub only :
      (category : Category) (bytes : List ℕ) (l l' : Letter) (x x' : Option Reading) → Reads category bytes l x
      → Reads category bytes l' x' → (l ≡ l') × (x ≡ x')
  pub letter :
      (category : Category) (bytes : List ℕ) (l : Letter) (x : Option Reading) → Reads category bytes l x
      → is_some x ≡ is_read l

-- ---- calls

-- a call with what it was given, without its answer
pub data Command : Type 0 where
  send : ℕ → Parameters → Command
  blank : Command
  disturb : ℕ → ℕ → List ℕ → Command
  take : Command
  restart_sender : Command
  restart_receiver : Command

-- what a call was given
abbrev pub command_of : Call → Command
command_of (Send n p r) = send n p
command_of (Blank r) = blank
command_of (Disturb n c bytes r) = disturb n c bytes
command_of (Take x) = take
command_of RestartSender = restart_sender
command_of RestartReceiver = restart_receiver

-- a send is given ten frequencies, four pitch pairs and eight codebook parameters, and a disturb bytes; all else may be
-- anything
abbrev pub IsComplete : Command → Type 0
IsComplete (send n p) = AreComplete p
IsComplete blank = Unit {0}
IsComplete (disturb n c bytes) = are_bytes bytes ≡ true
IsComplete take = Unit {0}
IsComplete restart_sender = Unit {0}
IsComplete restart_receiver = Unit {0}

-- an answer to a command on a link, with the link after it
pub record Answered (s : Link) (command : Command) : Type 0 where
  pub call : Call
  pub link : Link
  pub given : command_of call ≡ command
  pub step : Step s call link

-- on every link, whatever its state, each complete command has an answer; and it has only one, which leaves only one
-- link
pub record OneAnswerToEachCall : Type 0 where
  pub some : (s : Link) (command : Command) → IsComplete command → Answered s command
  pub only :
      (s t t' : Link) (c c' : Call) → command_of c ≡ command_of c' → Step s c t → Step s c' t' → (c ≡ c') × (t ≡ t')

-- a send has one thing that it answers its caller, with one sender and one line after it
pub record OneSendAnswer : Type 0 where
  pub some :
      (e : Sender) (line : Line) (n : ℕ) (p : Parameters) → AreComplete p
      → (r : Result ℕ Refusal) × (e' : Sender) × (line' : Line) × SendAnswers e line n p r e' line'
  pub only :
      (e d d' : Sender) (line l l' : Line) (n : ℕ) (p : Parameters) (r r' : Result ℕ Refusal)
      → SendAnswers e line n p r d l → SendAnswers e line n p r' d' l' → (r ≡ r') × (d ≡ d') × (l ≡ l')

-- ---- supplies

-- a supply, of whatever it is, has one answer when it is told to hand one over, one when it is told to hand it over
-- into a place, and one count; each leaves one supply, and the second one thing in the place
pub record OneHandOver (A : Type 0) : Type 0 where
  pub handed : (supply : List A) → (x : Option A) × (rest : List A) × HandsOver supply x rest
  pub only_handed :
      (supply rest rest' : List A) (x x' : Option A) → HandsOver supply x rest
      → HandsOver supply x' rest' → (x ≡ x') × (rest ≡ rest')
  pub into_place :
      (supply : List A) (place : A)
      → (b : Bool) × (rest : List A) × (after : A) × HandedOver supply place b rest after
  pub only_into_place :
      (supply rest rest' : List A) (place after after' : A) (b b' : Bool)
      → HandedOver supply place b rest after → HandedOver supply place b' rest' after'
      → (b ≡ b') × (rest ≡ rest') × (after ≡ after')
  pub count : (supply : List A) → (n : ℕ) × (rest : List A) × Counts supply n rest
  pub only_count :
      (supply rest rest' : List A) (n n' : ℕ) → Counts supply n rest → Counts supply n' rest'
      → (n ≡ n') × (rest ≡ rest')

-- a count is of the things that are still to be handed over: one more than are left behind each, and 0 where there is
-- none
pub record HandOversAreCounted (A : Type 0) : Type 0 where
  pub each :
      (supply same rest left : List A) (x : A) (n m : ℕ) → Counts supply n same → HandsOver same (Some x) rest
      → Counts rest m left → n ≡ m + 1
  pub none : (supply same rest : List A) (n : ℕ) → Counts supply n same → HandsOver same None rest → n ≡ 0

-- ---- takes

-- what a take takes, or that it takes none, is handed over into the place that its caller lends; and an arrival that
-- was handed over into a place, and that the receiver reads, is taken
pub record EachTakeFillsThePlace : Type 0 where
  pub filled :
      (e e' : Receiver) (supply rest : List Arrival) (x : Option Taken) (place : Arrival) → Takes e supply x e' rest
      → HandedOver supply place (is_some x) rest (place_after x place)
  pub taken :
      (e e' : Receiver) (supply rest : List Arrival) (x : Taken) (place after : Arrival)
      → HandedOver supply place true rest after → x.arrival ≡ after → Receives e x e'
      → Takes e supply (Some x) e' rest × (place_after (Some x) place ≡ after)

-- a take of the receiver from what is to come to its link is a take call, and leaves the link with what is then to come
abbrev pub EachTakeIsACall : Type 0
EachTakeIsACall =
    (s : Link) (x : Option Taken) (e : Receiver) (rest : List Arrival) → Takes s.receiver (to_come s) x e rest
    → Step s (Take x) (link_after_take e rest s)

-- a history of take calls alone, which took these, and its link
pub record TakesAreCalls (s : Link) (xs : List Taken) (e : Receiver) (rest : List Arrival) : Type 0 where
  pub history : List CallMade
  pub run : Run s history
  pub calls : map (λ m. m.call) (reverse history) ≡ map (λ x. Take (Some x)) xs
  pub link : now s history ≡ link_after_take e rest s

-- takes one after another are a run of take calls
abbrev pub ChainOfTakesIsARun : Type 0
ChainOfTakesIsARun =
    (s : Link) (xs : List Taken) (e : Receiver) (rest : List Arrival) → TakesAll s.receiver (to_come s) xs e rest
    → TakesAreCalls s xs e rest

-- takes and then further takes are takes of both
abbrev pub ChainsOfTakesJoin : Type 0
ChainsOfTakesJoin =
    (e d c : Receiver) (supply list rest : List Arrival) (xs ys : List Taken) → TakesAll e supply xs d list
    → TakesAll d list ys c rest → TakesAll e supply (xs ++ ys) c rest

-- ---- runs of takes, and pages

-- a run of takes has an answer, whatever its queue holds, and only one, which leaves only one state
pub record OneAnswerToEachRunOfTakes : Type 0 where
  pub some :
      (wanted places : ℕ) (s : RunState) → (a : RunAnswer) × (t : RunState) × RunsTakes wanted places s a t
  pub only :
      (wanted places : ℕ) (s t t' : RunState) (a a' : RunAnswer) → RunsTakes wanted places s a t
      → RunsTakes wanted places s a' t' → (a ≡ a') × (t ≡ t')

-- The page call has one answer, and leaves one receiver; an accepted one is a restart of the receiver of any link that
-- has it. Each supply has the rows of one page, and each reel, lawful or not, the text of one.
pub record OnePage : Type 0 where
  pub start :
      (reel : Result (List Arrival) Answer) (e : Receiver)
      → (r : Result (List Arrival) Refusal) × (d : Receiver) × StartsPage (λ list. list) reel e r d
  pub only_start :
      (reel : Result (List Arrival) Answer) (e d d' : Receiver) (r r' : Result (List Arrival) Refusal)
      → StartsPage (λ list. list) reel e r d → StartsPage (λ list. list) reel e r' d' → (r ≡ r') × (d ≡ d')
  pub restarts :
      (reel : Result (List Arrival) Answer) (s : Link) (supply : List Arrival) (e : Receiver)
      → StartsPage (λ list. list) reel s.receiver (Ok supply) e → Step s RestartReceiver (record s { receiver = e })
  pub some : (supply : List Arrival) → (rows : List Row) × PageRows supply rows
  pub only :
      (supply : List Arrival) (rows rows' : List Row) → PageRows supply rows → PageRows supply rows' → rows ≡ rows'
  pub text : (bytes : List ℕ) → (text : List ℕ) × PageText bytes text
  pub only_text : (bytes text text' : List ℕ) → PageText bytes text → PageText bytes text' → text ≡ text'

-- a print of a text into a buffer has one answer, and leaves one buffer, which is as long as it was
pub record OnePrint : Type 0 where
  pub some : (text before : List ℕ) → (after : List ℕ) × (r : Result ℕ Refusal) × Prints text before after r
  pub only :
      (text before after after' : List ℕ) (r r' : Result ℕ Refusal) → Prints text before after r
      → Prints text before after' r' → (after ≡ after') × (r ≡ r')
  pub length :
      (text before after : List ℕ) (r : Result ℕ Refusal) → Prints text before after r → length after ≡ length before

-- after a print the text stands at the buffer's start, and what was behind it is kept; after one that is refused all is
pub record PrintsStandAtTheStart : Type 0 where
  pub text : (text before after : List ℕ) (n : ℕ) → Prints text before after (Ok n) → first n after ≡ text
  pub kept : (text before after : List ℕ) (n : ℕ) → Prints text before after (Ok n) → drop n after ≡ drop n before
  pub refused : (text before after : List ℕ) (r : Refusal) → Prints text before after (Err r) → after ≡ before

-- ---- what was sent is read

-- what a send put on the line is read, with letter C and as it was sent: the rate, the codes, and the pairs and figures
-- of the rate's subframes
pub record ReadAsSent (q : Rate) (p : Parameters) (f : Sent) : Type 0 where
  pub reading : Reading
  pub read : Reads (arrival_sent f).category (arrival_sent f).bytes C (Some reading)
  pub rate : reading.rate ≡ q
  pub codes : reading.codes ≡ f.codes
  pub pitches : PairsReadAsSent q p.pitches reading.pitches
  pub codebooks : FiguresReadAsSent q p.codebooks reading.codebooks

-- every frame that a sender codes is, if nothing disturbs it
abbrev pub SentIsReadAsSent : Type 0
SentIsReadAsSent = (q : Rate) (p : Parameters) (e : Sender) (f : Sent) → CodesFrame q p e f → ReadAsSent q p f
