-- A link, and what each call on its parts does. Of each call one relation says what it answers, and the parts after it;
-- the case of a refusal names the tests that were passed before it.
use Rattle.std.specs.Prelude.{◌≡◌, ◌≢◌, ℕ, ◌-◌, true, List, [], ◌∷◌, ◌++◌, set, Ok, Err, Option}
use Rattle.std.specs.Prelude.{Result}
use Rattle.service.specs.declared.rates.Rate.{Rate}
use Rattle.service.specs.declared.refusals.Refusal.{Refusal}
use Rattle.service.specs.declared.refusals.Refusal.TheVariants.{Faulty, LineFull, NoArrival, Codes}
use Rattle.service.specs.Categories.{category_of}
use Rattle.service.specs.Queues.{HasRoom, IsFull, Waits, places_in}
use Rattle.service.specs.Rates.{rate_is}
use Rattle.rules.specs.Arrivals.{Arrival, ArrivalFault, MakesArrival, are_bytes, blank_arrival}
use Rattle.rules.specs.Readings.{lowered}
use Rattle.rules.specs.Ends.{Receiver, Sender, Taken, Takes, new_receiver, new_sender}
use Rattle.rules.specs.Sending.{AreComplete, CodesFrame, CodingRefused, Parameters, Sent, arrival_sent, sender_after}

-- a line: the arrivals that wait on it, the oldest first, and how many places it has for them
pub record Line : Type 0 where
  pub waiting : List Arrival
  pub places : ℕ

-- where the takes of a link come from: its own line, or another supply with these arrivals to come
pub data Source : Type 0 where
  this_line : Source
  other_supply : List Arrival → Source

-- a link
pub record Link : Type 0 where
  pub sender : Sender
  pub line : Line
  pub receiver : Receiver
  pub source : Source

-- a line in a memory of n places, on which nothing waits
abbrev pub empty_line : ℕ → Line
empty_line n = record { waiting = []; places = places_in n }

-- the link that is made of a line and a source: both ends are new
abbrev pub new_link : Line → Source → Link
new_link line source = record { sender = new_sender; line = line; receiver = new_receiver; source = source }

-- the line with one arrival more, behind those that wait
abbrev pub with_last : Arrival → Line → Line
with_last a line = record line { waiting = line.waiting ++ (a ∷ []) }

-- an arrival is put behind those that wait, or it is refused with 14 alone, as no place is free
abbrev pub Adds : Line → Arrival → Result Unit Refusal → Line → Type 0
Adds line a (Ok u) line' = HasRoom line.places line.waiting × (line' ≡ with_last a line)
Adds line a (Err LineFull) line' = IsFull line.places line.waiting × (line' ≡ line)
Adds line a (Err _) line' = ⊥

-- ---- send

-- the number names a rate and the line has room; so the parameters are coded at this rate
abbrev pub Ready : Line → ℕ → Rate → Type 0
Ready line n rate = ((rate_is rate).number ≡ n) × HasRoom line.places line.waiting

-- the tests are made in the order 17, 14, and then those of coding
abbrev pub SendRefused : Sender → Line → ℕ → Parameters → Refusal → Type 0
SendRefused e line n p Codes = (rate : Rate) → (rate_is rate).number ≢ n
SendRefused e line n p LineFull = ((rate : Rate) × ((rate_is rate).number ≡ n)) × IsFull line.places line.waiting
SendRefused e line n p refusal = (rate : Rate) × Ready line n rate × CodingRefused rate p e refusal

-- an accepted send: the packet joins the line
pub record SendAccepted (e : Sender) (line : Line) (n : ℕ) (p : Parameters) (f : Sent) (e' : Sender) (line' : Line)
    : Type 0 where
  pub ready : Ready line n f.rate
  pub coded : CodesFrame f.rate p e f
  pub sender : e' ≡ sender_after p f e
  pub line_after : line' ≡ with_last (arrival_sent f) line

-- what a send at the rate of a number does: what was sent, or the refusal, with the sender and the line after it
abbrev pub Sends : Sender → Line → ℕ → Parameters → Result Sent Refusal → Sender → Line → Type 0
Sends e line n p (Ok f) e' line' = AreComplete p × SendAccepted e line n p f e' line'
Sends e line n p (Err refusal) e' line' =
    AreComplete p × SendRefused e line n p refusal × (e' ≡ e) × (line' ≡ line)

-- What it answers its caller is the draws alone. The rate, the codes and the bytes that were sent are fixed, and show
-- in the sender and on the line.
abbrev pub SendAnswers : Sender → Line → ℕ → Parameters → Result ℕ Refusal → Sender → Line → Type 0
SendAnswers e line n p (Ok draws) e' line' = (f : Sent) × (f.draws ≡ draws) × Sends e line n p (Ok f) e' line'
SendAnswers e line n p (Err refusal) e' line' = Sends e line n p (Err refusal) e' line'

-- ---- blank

-- the sender after a blank
abbrev pub sender_after_blank : Sender → Sender
sender_after_blank e = record e { pitch = lowered e.pitch }

-- what a blank answers, with the sender and the line after it; it can be refused with 14 alone
abbrev pub Blanks : Sender → Line → Result Unit Refusal → Sender → Line → Type 0
Blanks e line (Ok u) e' line' = Adds line blank_arrival (Ok u) line' × (e' ≡ sender_after_blank e)
Blanks e line (Err refusal) e' line' = Adds line blank_arrival (Err refusal) line' × (e' ≡ e)

-- ---- disturb

-- the tests are made in the order 15, 5, 6, 9; the last three name the arrival
abbrev pub DisturbRefused : Line → ℕ → ℕ → List ℕ → Refusal → Type 0
DisturbRefused line n c bytes NoArrival = Waits line.waiting n → ⊥
DisturbRefused line n c bytes (Faulty fault) = Waits line.waiting n × ArrivalFault n c bytes fault
DisturbRefused line n c bytes _ = ⊥

-- the arrival that a disturb puts on the line
abbrev pub arrival_put : ℕ → List ℕ → Arrival
arrival_put c bytes = record { category = category_of c; bytes = bytes }

-- an accepted disturb: the waiting arrival is replaced by the one that the number of a category and the bytes make
pub record DisturbAccepted (line : Line) (n c : ℕ) (bytes : List ℕ) (line' : Line) : Type 0 where
  pub waits : Waits line.waiting n
  pub made : MakesArrival (λ a. a) n c bytes (Ok (arrival_put c bytes))
  pub line_after : line' ≡ record line { waiting = set line.waiting (n - 1) (arrival_put c bytes) }

-- what a disturb answers, with the line after it
abbrev pub Disturbs : Line → ℕ → ℕ → List ℕ → Result Unit Refusal → Line → Type 0
Disturbs line n c bytes (Ok u) line' = DisturbAccepted line n c bytes line'
Disturbs line n c bytes (Err refusal) line' =
    (are_bytes bytes ≡ true) × DisturbRefused line n c bytes refusal × (line' ≡ line)

-- ---- take

-- the arrivals that are to come from a source, beside this line
abbrev pub to_come_from : Source → Line → List Arrival
to_come_from this_line line = line.waiting
to_come_from (other_supply list) line = list

-- the arrivals that are to come to a link
abbrev pub to_come : Link → List Arrival
to_come s = to_come_from s.source s.line

-- the line once these are left to come
abbrev pub line_left : Source → List Arrival → Line → Line
line_left this_line rest line = record line { waiting = rest }
line_left (other_supply list) rest line = line

-- the source once these are left to come
abbrev pub source_left : Source → List Arrival → Source
source_left this_line rest = this_line
source_left (other_supply list) rest = other_supply rest

-- the link whose receiver is e and to which these are left to come
abbrev pub link_after_take : Receiver → List Arrival → Link → Link
link_after_take e rest s = record s {
  line = line_left s.source rest s.line;
  receiver = e;
  source = source_left s.source rest;
}

-- a link takes from its source: the receiver and what is to come go on by the rule of a take, and nothing else is
-- altered
abbrev pub TakesFromSource : Link → Option Taken → Link → Type 0
TakesFromSource s x t =
    Takes s.receiver (to_come s) x t.receiver (to_come t) × (t ≡ link_after_take t.receiver (to_come t) s)
