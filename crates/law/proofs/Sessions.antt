-- From every link each list of commands has one run.
use Rattle.std.proofs.Common.{◌≡◌, ℕ, List, [], ◌∷◌, ◌++◌, length, map, reverse, Ok, Err, Some, Option, refl, sym, ap, ap₂, ◌∙◌, subst, arith}
use Rattle.std.proofs.lemmas.List.{map-append, reverse-append}
use Rattle.rules.specs.Arrivals.{Arrival}
use Rattle.rules.specs.Ends.{Receiver, Sender}
use Rattle.rules.specs.Links.{Link}
use Rattle.law.specs.Runs.{Call, CallMade, Run, Send, Step, now}
use Rattle.law.specs.Answers.{Command, command_of}
use Rattle.law.proofs.OneAnswer.{one_answer}
use Rattle.law.proofs.OneRun.{run_before}
use Rattle.law.specs.Sessions.{AreAllComplete, Gives, IsSession, OneOutcomeOfASession, OneSessionOfCommands, Outcome, EverySendCarries, Reply, Session, SessionsGrow, arrival_on_line, outcome_of, reply_of}
use Rattle.law.proofs.Every.{carried, carried_over, every_run_throughout}

abbrev command_made : CallMade → Command
command_made m = command_of m.call

session_some : (s : Link) (commands : List Command) → AreAllComplete commands → (h : List CallMade) × IsSession s commands h
session_some s [] complete = ([], record { run = tt; given = refl })
session_some s (command ∷ commands) complete =
    let first = one_answer.some s command complete.0 in
    let m : CallMade = record { call = first.call; link = first.link } in
    let (h, session) = session_some first.link commands complete.1 in (
      h ++ (m ∷ []),
      record {
        run = run_before s m first.step h session.run;
        given = ap (map command_made) (reverse-append h (m ∷ [])) ∙ ap₂ (λ c l. c ∷ l) first.given session.given;
      },
    )

reverse_twice : {A : Type 0} (xs : List A) → reverse (reverse xs) ≡ xs
reverse_twice [] = refl
reverse_twice (x ∷ xs) =
    ap reverse (reverse-append (x ∷ []) xs) ∙ reverse-append (reverse xs) (x ∷ []) ∙ ap (λ l. x ∷ l) (reverse_twice xs)

map_reverse : {A B : Type 0} (f : A → B) (xs : List A) → map f (reverse xs) ≡ reverse (map f xs)
map_reverse f [] = refl
map_reverse f (x ∷ xs) =
    ap (map f) (reverse-append (x ∷ []) xs) ∙ map-append f (reverse xs) (x ∷ []) ∙ ap (λ l. l ++ (f x ∷ [])) (map_reverse f xs)
    ∙ sym (reverse-append (f x ∷ []) (map f xs))

-- the commands of a history, the latest first
backward : (s : Link) (commands : List Command) (h : List CallMade) → IsSession s commands h → map command_made h ≡ reverse commands
backward s commands h session =
    sym (reverse_twice (map command_made h)) ∙ ap reverse (sym (map_reverse command_made h)) ∙ ap reverse session.given

first_command : List Command → Command → Command
first_command [] d = d
first_command (c ∷ l) d = c

rest_commands : List Command → List Command
rest_commands [] = []
rest_commands (c ∷ l) = l

same_made : (m m' : CallMade) → m.call ≡ m'.call → m.link ≡ m'.link → m ≡ m'
same_made m m' e e' = ap₂ (λ c l. made c l) e e'
  where
    made : Call → Link → CallMade
    made c l = record { call = c; link = l }

histories_once : (s : Link) (h h' : List CallMade) → map command_made h ≡ map command_made h' → Run s h → Run s h' → h ≡ h'
unfolding first_command rest_commands
histories_once s [] [] e r r' = refl
histories_once s [] (m ∷ h) e r r' = absurd (omega (arith, ap length e))
histories_once s (m ∷ h) [] e r r' = absurd (omega (arith, ap length e))
histories_once s (m ∷ h) (m' ∷ h') e r r' =
    let before = histories_once s h h' (ap rest_commands e) r.1 r'.1 in
    let step' : Step (now s h) m'.call m'.link = subst (λ l. Step (now s l) m'.call m'.link) (sym before) r'.0 in
    let same = one_answer.only (now s h) m.link m'.link m.call m'.call (ap (λ l. first_command l (command_made m)) e) r.0 step' in
    ap₂ (λ x l. x ∷ l) (same_made m m' same.0 same.1) before

pub one_session : OneSessionOfCommands
one_session = record {
  some = session_some;
  only = λ s commands h h' a b. histories_once s h h' (backward s commands h a ∙ sym (backward s commands h' b)) a.run b.run;
}

-- ---- what commands give

pub one_outcome : OneOutcomeOfASession
one_outcome s t t' commands outcomes outcomes' a b =
    let same : a.history ≡ b.history = one_session.only s commands a.history b.history a.session b.session in (
      sym a.given ∙ ap (λ h. map (λ m. Some (outcome_of m)) (reverse h)) same ∙ b.given,
      sym a.carried.link ∙ ap (now s) same ∙ b.carried.link,
    )

-- what is read off the calls of a history, with one call more
one_read : {A : Type 0} (f : CallMade → A) (m : CallMade) (h : List CallMade) (xs : List A) → map f (reverse h) ≡ xs
    → map f (reverse (m ∷ h)) ≡ xs ++ (f m ∷ [])
one_read f m h xs e =
    ap (map f) (reverse-append (m ∷ []) h) ∙ map-append f (reverse h) (m ∷ []) ∙ ap (λ l. l ++ (f m ∷ [])) e

session_more : (s t u : Link) (commands : List Command) (outcomes : List (Option Outcome)) (command : Command) (outcome : Outcome)
    → Session s commands outcomes t → Gives t command outcome u
    → Session s (commands ++ (command ∷ [])) (outcomes ++ (Some outcome ∷ [])) u
session_more s t u commands outcomes command outcome a g =
    let m : CallMade = record { call = g.call; link = u } in
    let step : Step (now s a.history) g.call u = subst (λ l. Step l g.call u) (sym a.carried.link) g.step in
    let run : Run s (m ∷ a.history) = (step, a.session.run) in
    record {
      history = m ∷ a.history;
      session = record {
        run = run;
        given = one_read command_made m a.history commands a.session.given ∙ ap (λ c. commands ++ (c ∷ [])) g.given;
      };
      given = one_read (λ k. Some (outcome_of k)) m a.history outcomes a.given ∙ ap (λ o. outcomes ++ (Some o ∷ [])) g.outcome_is;
      carried = carried_over s (m ∷ a.history) run;
      law = λ new. every_run_throughout s (m ∷ a.history) new run;
    }

-- what a call gave, part by part
pub gives : (s t : Link) (command : Command) (call : Call) (o : Outcome) → command_of call ≡ command → reply_of call ≡ o.reply → arrival_on_line call ≡ o.put
    → t.sender ≡ o.sender → t.receiver ≡ o.receiver → length t.line.waiting ≡ o.waiting → Step s call t → Gives s command o t
gives s t command call o given reply put sender receiver waiting step = record {
  call = call;
  given = given;
  outcome_is =
      ap (λ x. outcome x (arrival_on_line call) t.sender t.receiver (length t.line.waiting)) reply
      ∙ ap (λ x. outcome o.reply x t.sender t.receiver (length t.line.waiting)) put
      ∙ ap (λ x. outcome o.reply o.put x t.receiver (length t.line.waiting)) sender
      ∙ ap (λ x. outcome o.reply o.put o.sender x (length t.line.waiting)) receiver
      ∙ ap (λ x. outcome o.reply o.put o.sender o.receiver x) waiting;
  step = step;
}
  where
    outcome : Reply → Option Arrival → Sender → Receiver → ℕ → Outcome
    outcome reply put sender receiver waiting = record { reply = reply; put = put; sender = sender; receiver = receiver; waiting = waiting }

pub sessions_grow : SessionsGrow
sessions_grow = record {
  none = λ s. record {
    history = [];
    session = record { run = tt; given = refl };
    given = refl;
    carried = carried_over s [] tt;
    law = λ new. every_run_throughout s [] new tt;
  };
  more = session_more;
}

pub every_send_carries : EverySendCarries
every_send_carries t u n p (Ok draws) (f, is, h) kept = (f, is, carried t u (Send n p (Ok f)) (h, kept))
every_send_carries t u n p (Err refusal) h kept = carried t u (Send n p (Err refusal)) (h, kept)
