-- Sessions: lists of commands that are performed on a link one after another, with what each gave.
use Rattle.std.specs.Prelude.{◌≡◌, ℕ, List, [], ◌∷◌, ◌++◌, length, map, reverse, Ok, Err, Some, None, Option, Result}
use Rattle.service.specs.declared.refusals.Refusal.{Refusal}
use Rattle.rules.specs.Ends.{Receiver, Sender, Taken}
use Rattle.rules.specs.Arrivals.{Arrival, blank_arrival}
use Rattle.rules.specs.Links.{Link, SendAnswers, arrival_put}
use Rattle.rules.specs.Sending.{Parameters, Sent, arrival_sent, send_answer}
use Rattle.law.specs.Runs.{Call, CallMade, Send, Blank, Disturb, Take, RestartSender, RestartReceiver, New, Run, Step}
use Rattle.law.specs.Law.{Carried, CarriedOver, LawThroughout}
use Rattle.law.specs.Answers.{Command, IsComplete, command_of}

-- ---- runs of given commands

-- the history is a run of these commands from s, the first first
pub record IsSession (s : Link) (commands : List Command) (h : List CallMade) : Type 0 where
  pub run : Run s h
  pub given : map (λ m. command_of m.call) (reverse h) ≡ commands

-- each command of a list is complete
abbrev pub AreAllComplete : List Command → Type 0
AreAllComplete [] = Unit {0}
AreAllComplete (command ∷ commands) = IsComplete command × AreAllComplete commands

-- from every link each list of complete commands has a run, and only one
pub record OneSessionOfCommands : Type 0 where
  pub some :
      (s : Link) (commands : List Command) → AreAllComplete commands → (h : List CallMade) × IsSession s commands h
  pub only :
      (s : Link) (commands : List Command) (h h' : List CallMade) → IsSession s commands h → IsSession s commands h'
      → h ≡ h'

-- ---- what commands give

-- what a call answers its caller: of a send the number of draws alone, or the refusal
pub data Reply : Type 0 where
  sent : Result ℕ Refusal → Reply
  blanked : Result Unit Refusal → Reply
  disturbed : Result Unit Refusal → Reply
  took : Option Taken → Reply
  restarted : Reply

abbrev pub reply_of : Call → Reply
reply_of (Send n p r) = sent (send_answer r)
reply_of (Blank r) = blanked r
reply_of (Disturb n c bytes r) = disturbed r
reply_of (Take x) = took x
reply_of RestartSender = restarted
reply_of RestartReceiver = restarted

-- the arrival that a call put on the line: the packet or the blank that was sent, or what a disturb put in another's
-- place
abbrev pub arrival_on_line : Call → Option Arrival
arrival_on_line (Send n p (Ok f)) = Some (arrival_sent f)
arrival_on_line (Send n p (Err e)) = None
arrival_on_line (Blank (Ok u)) = Some blank_arrival
arrival_on_line (Blank (Err e)) = None
arrival_on_line (Disturb n c bytes (Ok u)) = Some (arrival_put c bytes)
arrival_on_line (Disturb n c bytes (Err e)) = None
arrival_on_line (Take x) = None
arrival_on_line RestartSender = None
arrival_on_line RestartReceiver = None

-- what a command gave: the reply, the arrival that it put on the line, and right after it both ends and how many
-- arrivals wait
pub record Outcome : Type 0 where
  pub reply : Reply
  pub put : Option Arrival
  pub sender : Sender
  pub receiver : Receiver
  pub waiting : ℕ

-- what a call that was made gave
abbrev pub outcome_of : CallMade → Outcome
outcome_of m = record {
  reply = reply_of m.call;
  put = arrival_on_line m.call;
  sender = m.link.sender;
  receiver = m.link.receiver;
  waiting = length m.link.line.waiting;
}

-- a command on the link s gave this and led to the link t, by the rule of its call
pub record Gives (s : Link) (command : Command) (outcome : Outcome) (t : Link) : Type 0 where
  pub call : Call
  pub given : command_of call ≡ command
  pub outcome_is : outcome_of (record { call = call; link = t }) ≡ outcome
  pub step : Step s call t

-- A send on the link t was answered so and led to the link u, by its rule: so any run from a new link that led to t
-- goes on to u, and the law holds after each call of it. Its caller is told the draws alone; what was sent with so many
-- draws shows in the sender and on the line.
abbrev pub SendCarried : Link → ℕ → Parameters → Result ℕ Refusal → Link → Type 0
SendCarried t n p (Ok draws) u = (f : Sent) × (f.draws ≡ draws) × Carried t (Send n p (Ok f)) u
SendCarried t n p (Err refusal) u = Carried t (Send n p (Err refusal)) u

-- The commands, performed on s one after another, gave these outcomes, one each, and led to t: they are those of a
-- history that is a run of exactly these commands. Any run from a new link that led to s goes on by it, and if s was
-- new the law holds after each of its calls. An outcome is shown as Some, as in places that were empty before.
pub record Session (s : Link) (commands : List Command) (outcomes : List (Option Outcome)) (t : Link) : Type 0 where
  pub history : List CallMade
  pub session : IsSession s commands history
  pub given : map (λ m. Some (outcome_of m)) (reverse history) ≡ outcomes
  pub carried : CarriedOver s history t
  pub law : New s → LawThroughout s history

-- equal links and equal commands have equal outcomes, and lead to equal links
abbrev pub OneOutcomeOfASession : Type 0
OneOutcomeOfASession =
    (s t t' : Link) (commands : List Command) (outcomes outcomes' : List (Option Outcome))
    → Session s commands outcomes t → Session s commands outcomes' t' → (outcomes ≡ outcomes') × (t ≡ t')

-- what a send answers its caller is enough for SendCarried, if nothing else of the link is altered
abbrev pub EverySendCarries : Type 0
EverySendCarries =
    (t u : Link) (n : ℕ) (p : Parameters) (answer : Result ℕ Refusal)
    → SendAnswers t.sender t.line n p answer u.sender u.line → u ≡ record t { sender = u.sender; line = u.line }
    → SendCarried t n p answer u

-- no command is a session, and a session and one command more are a session
pub record SessionsGrow : Type 0 where
  pub none : (s : Link) → Session s [] [] s
  pub more :
      (s t u : Link) (commands : List Command) (outcomes : List (Option Outcome)) (command : Command)
      (outcome : Outcome) → Session s commands outcomes t → Gives t command outcome u
      → Session s (commands ++ (command ∷ [])) (outcomes ++ (Some outcome ∷ [])) u
