-- What every link keeps: the places of its line, and lawful arrivals.
use Rattle.std.proofs.Common.{◌≡◌, ℕ, Result, zero, suc, ◌-◌, ◌<◌, ◌≤◌, true, List, [], ◌∷◌, ◌++◌, length, set, Ok, Err, Some, None, Option, refl, sym, ap, ◌∙◌, subst, arith}
use Rattle.std.proofs.lemmas.Bool.{and_parts}
use Rattle.service.specs.declared.refusals.Refusal.{Refusal}
use Rattle.rules.specs.Ends.{Sender, Taken}
use Rattle.rules.specs.Arrivals.{Arrival, are_bytes, are_lawful, blank_arrival, is_lawful}
use Rattle.rules.specs.Sending.{Parameters, Sent, arrival_sent, drawn}
use Rattle.rules.specs.Links.{Blanks, Disturbs, Line, Link, Sends, Source, this_line, other_supply, TakesFromSource, arrival_put, line_left, with_last, source_left, to_come, to_come_from}
use Rattle.law.specs.Runs.{Call, Send, Blank, Disturb, Take, RestartSender, RestartReceiver, CallMade, New, Run, Step, now}
use Rattle.law.proofs.Numbers.{push_length}
use Rattle.law.proofs.Sent.{sent_lawful}
use Rattle.law.proofs.Steps.{blank_refused}
use Rattle.law.specs.Keeping.{EmptyLinesAreWithinPlaces, WithinPlaces}

pub empty_lines : EmptyLinesAreWithinPlaces
empty_lines n = record { places = omega arith; fits = omega arith }

lawful_push : (list : List Arrival) (a : Arrival) → are_lawful list ≡ true → is_lawful a ≡ true → are_lawful (list ++ (a ∷ [])) ≡ true
unfolding are_lawful
lawful_push [] a h l = rw l refl
lawful_push (x ∷ xs) a h l = let (x_is, xs_are) = and_parts (is_lawful x) (are_lawful xs) h in rw (x_is, lawful_push xs a xs_are l) refl

lawful_set : (list : List Arrival) (i : ℕ) (a : Arrival) → are_lawful list ≡ true → is_lawful a ≡ true → are_lawful (set list i a) ≡ true
unfolding are_lawful
lawful_set [] i a h l = refl
lawful_set (x ∷ xs) zero a h l = let (x_is, xs_are) = and_parts (is_lawful x) (are_lawful xs) h in rw (l, xs_are) refl
lawful_set (x ∷ xs) (suc i) a h l = let (x_is, xs_are) = and_parts (is_lawful x) (are_lawful xs) h in rw (x_is, lawful_set xs i a xs_are l) refl

lawful_rest : (a : Arrival) (list : List Arrival) → are_lawful (a ∷ list) ≡ true → are_lawful list ≡ true
unfolding are_lawful
lawful_rest a list h = (and_parts (is_lawful a) (are_lawful list) h).1

pub lawful_first : (a : Arrival) (list : List Arrival) → are_lawful (a ∷ list) ≡ true → is_lawful a ≡ true
unfolding are_lawful
lawful_first a list h = (and_parts (is_lawful a) (are_lawful list) h).0

pub set_length : {A : Type 0} (list : List A) (i : ℕ) (a : A) → length (set list i a) ≡ length list
set_length [] i a = refl
set_length (x ∷ xs) zero a = refl
set_length (x ∷ xs) (suc i) a = ap suc (set_length xs i a)

pub record LineKept (line : Line) : Type 0 where
  pub waiting : are_lawful line.waiting ≡ true

-- the arrivals that another supply has to come are lawful
pub SupplyKept : Source → Type 0
SupplyKept this_line = Unit {0}
SupplyKept (other_supply list) = are_lawful list ≡ true

pub record ArrivalsKept (s : Link) : Type 0 where
  pub line : LineKept s.line
  pub supply : SupplyKept s.source

pub to_come_kept : (supply : Source) (line : Line) → LineKept line → SupplyKept supply → are_lawful (to_come_from supply line) ≡ true
unfolding SupplyKept
to_come_kept this_line line k l = k.waiting
to_come_kept (other_supply list) line k l = l

pub supply_kept : (supply : Source) (line : Line) → are_lawful (to_come_from supply line) ≡ true → SupplyKept supply
unfolding SupplyKept
supply_kept this_line line h = tt
supply_kept (other_supply list) line h = h

line_pushed : (line : Line) (a : Arrival) → is_lawful a ≡ true → LineKept line → LineKept (with_last a line)
line_pushed line a lawful k = record {
  waiting = lawful_push line.waiting a k.waiting lawful;
}

line_set : (line : Line) (i : ℕ) (a : Arrival) → is_lawful a ≡ true → LineKept line → LineKept (record line { waiting = set line.waiting i a })
line_set line i a lawful k = record {
  waiting = lawful_set line.waiting i a k.waiting lawful;
}

-- what is left once the first was taken
left_kept : (supply : Source) (line : Line) (a : Arrival) (rest : List Arrival) → to_come_from supply line ≡ a ∷ rest → LineKept line → SupplyKept supply
    → LineKept (line_left supply rest line) × SupplyKept (source_left supply rest)
unfolding SupplyKept
left_kept this_line line a rest e k l =
    (record { waiting = lawful_rest a rest (subst (λ l. are_lawful l ≡ true) e k.waiting) }, tt)
left_kept (other_supply list) line a rest e k l = (k, lawful_rest a rest (subst (λ l. are_lawful l ≡ true) e l))

none_left : (supply : Source) (line : Line) (rest : List Arrival) → to_come_from supply line ≡ [] → rest ≡ [] → LineKept line → SupplyKept supply
    → LineKept (line_left supply rest line) × SupplyKept (source_left supply rest)
unfolding SupplyKept
none_left this_line line rest e r k l =
    (record { waiting = subst (λ l. are_lawful l ≡ true) (e ∙ sym r) k.waiting }, tt)
none_left (other_supply list) line rest e r k l = (k, subst (λ l. are_lawful l ≡ true) (e ∙ sym r) l)

pub blank_lawful : is_lawful blank_arrival ≡ true
unfolding are_bytes
blank_lawful = refl

-- what each call leaves on the line
send_keeps : (e e' : Sender) (line line' : Line) (n : ℕ) (p : Parameters) (r : Result Sent Refusal) → Sends e line n p r e' line' → LineKept line → LineKept line'
send_keeps e e' line line' n p (Ok f) (complete, a) k =
    subst LineKept (sym a.line_after) (line_pushed line (arrival_sent f) (sent_lawful f.rate p e f a.coded) k)
send_keeps e e' line line' n p (Err r) (complete, refused, sender, line_is) k = subst LineKept (sym line_is) k

blank_keeps : (e e' : Sender) (line line' : Line) (r : Result Unit Refusal) → Blanks e line r e' line' → LineKept line → LineKept line'
blank_keeps e e' line line' (Ok u) ((room, line_is), sender) k = subst LineKept (sym line_is) (line_pushed line blank_arrival blank_lawful k)
blank_keeps e e' line line' (Err r) h k = subst LineKept (sym (blank_refused e e' line line' r h).1) k

disturb_keeps : (line line' : Line) (n c : ℕ) (bytes : List ℕ) (r : Result Unit Refusal) → Disturbs line n c bytes r line' → LineKept line → LineKept line'
disturb_keeps line line' n c bytes (Ok u) a k = subst LineKept (sym a.line_after) (line_set line (n - 1) _ a.made.1.1 k)
disturb_keeps line line' n c bytes (Err r) (are, refused, line_is) k = subst LineKept (sym line_is) k

pub step_keeps : (s t : Link) (c : Call) → Step s c t → ArrivalsKept s → ArrivalsKept t
step_keeps s t (Send n p r) h k = record {
  line = send_keeps s.sender t.sender s.line t.line n p r h.0 k.line;
  supply = subst SupplyKept (sym (ap (λ l. l.source) h.1)) k.supply;
}
step_keeps s t (Blank r) h k = record {
  line = blank_keeps s.sender t.sender s.line t.line r h.0 k.line;
  supply = subst SupplyKept (sym (ap (λ l. l.source) h.1)) k.supply;
}
step_keeps s t (Disturb n c bytes r) h k = record {
  line = disturb_keeps s.line t.line n c bytes r h.0 k.line;
  supply = subst SupplyKept (sym (ap (λ l. l.source) h.1)) k.supply;
}
step_keeps s t (Take (Some x)) h k =
    let (line, supply) = left_kept s.source s.line x.arrival (to_come t) h.0.first k.line k.supply in
    subst ArrivalsKept (sym h.1) (record { line = line; supply = supply })
step_keeps s t (Take None) h k =
    let (line, supply) = none_left s.source s.line (to_come t) h.0.0.0 h.0.0.1 k.line k.supply in
    subst ArrivalsKept (sym h.1) (record { line = line; supply = supply })
step_keeps s t RestartSender h k = subst ArrivalsKept (sym h) (record { line = k.line; supply = k.supply })
step_keeps s t RestartReceiver h k = subst ArrivalsKept (sym h) (record { line = k.line; supply = k.supply })

pub arrivals_kept : (s : Link) (h : List CallMade) → New s → Run s h → ArrivalsKept (now s h)
arrivals_kept s [] new r = record {
  line = record { waiting = new.waiting };
  supply = supply_kept s.source s.line new.supply;
}
arrivals_kept s (m ∷ h) new r = step_keeps (now s h) m.link m.call r.0 (arrivals_kept s h new r.1)

-- ---- the places of the line

places_of_send : (e e' : Sender) (line line' : Line) (n : ℕ) (p : Parameters) (r : Result Sent Refusal) → Sends e line n p r e' line' → WithinPlaces line
    → WithinPlaces line'
places_of_send e e' line line' n p (Ok f) (complete, a) k =
    let room = a.ready.1 in
    let fits : length (line.waiting ++ (arrival_sent f ∷ [])) ≤ line.places = omega (arith, push_length line.waiting (arrival_sent f)) in
    subst WithinPlaces (sym a.line_after) (record { places = k.places; fits = fits })
places_of_send e e' line line' n p (Err r) (complete, refused, sender, line_is) k = subst WithinPlaces (sym line_is) k

places_of_blank : (e e' : Sender) (line line' : Line) (r : Result Unit Refusal) → Blanks e line r e' line' → WithinPlaces line → WithinPlaces line'
places_of_blank e e' line line' (Ok u) ((room, line_is), sender) k =
    let fits : length (line.waiting ++ (blank_arrival ∷ [])) ≤ line.places = omega (arith, push_length line.waiting blank_arrival) in
    subst WithinPlaces (sym line_is) (record { places = k.places; fits = fits })
places_of_blank e e' line line' (Err r) h k = subst WithinPlaces (sym (blank_refused e e' line line' r h).1) k

places_of_disturb : (line line' : Line) (n c : ℕ) (bytes : List ℕ) (r : Result Unit Refusal) → Disturbs line n c bytes r line' → WithinPlaces line
    → WithinPlaces line'
places_of_disturb line line' n c bytes (Ok u) a k =
    let fits : length (set line.waiting (n - 1) (arrival_put c bytes)) ≤ line.places = omega (arith, set_length line.waiting (n - 1) (arrival_put c bytes), k.fits) in
    subst WithinPlaces (sym a.line_after) (record { places = k.places; fits = fits })
places_of_disturb line line' n c bytes (Err r) (are, refused, line_is) k = subst WithinPlaces (sym line_is) k

-- no more wait once some were taken
places_left : (source : Source) (line : Line) (rest : List Arrival) → length rest ≤ length (to_come_from source line) → WithinPlaces line
    → WithinPlaces (line_left source rest line)
places_left this_line line rest h k = record { places = k.places; fits = (let f = k.fits in omega arith) }
places_left (other_supply list) line rest h k = k

places_of_take : (s t : Link) (x : Option Taken) → TakesFromSource s x t → WithinPlaces s.line → WithinPlaces t.line
places_of_take s t (Some x) (one, is) k =
    let long = ap length one.first in
    subst (λ l. WithinPlaces l.line) (sym is) (places_left s.source s.line (to_come t) (omega (arith, long)) k)
places_of_take s t None (((none, rest), kept), is) k =
    let long = ap length rest in
    subst (λ l. WithinPlaces l.line) (sym is) (places_left s.source s.line (to_come t) (omega (arith, long)) k)

places_step : (s t : Link) (c : Call) → Step s c t → WithinPlaces s.line → WithinPlaces t.line
places_step s t (Send n p r) h k = places_of_send s.sender t.sender s.line t.line n p r h.0 k
places_step s t (Blank r) h k = places_of_blank s.sender t.sender s.line t.line r h.0 k
places_step s t (Disturb n c bytes r) h k = places_of_disturb s.line t.line n c bytes r h.0 k
places_step s t (Take x) h k = places_of_take s t x h k
places_step s t RestartSender h k = subst (λ l. WithinPlaces l.line) (sym h) k
places_step s t RestartReceiver h k = subst (λ l. WithinPlaces l.line) (sym h) k

pub places_kept : (s : Link) (h : List CallMade) → Run s h → WithinPlaces s.line → WithinPlaces (now s h).line
places_kept s [] r k = k
places_kept s (m ∷ h) r k = places_step (now s h) m.link m.call r.0 (places_kept s h r.1 k)

-- ---- the seed

drawn_lt : (n seed : ℕ) → seed < 65536 → drawn n seed < 65536
unfolding drawn
drawn_lt zero seed h = h
drawn_lt (suc n) seed h = omega arith

seed_of_send : (e e' : Sender) (line line' : Line) (n : ℕ) (p : Parameters) (r : Result Sent Refusal) → Sends e line n p r e' line' → e.seed < 65536 → e'.seed < 65536
seed_of_send e e' line line' n p (Ok f) (complete, a) k = subst (λ d. d.seed < 65536) (sym a.sender) (drawn_lt f.draws e.seed k)
seed_of_send e e' line line' n p (Err r) (complete, refused, sender, line_is) k = subst (λ d. d.seed < 65536) (sym sender) k

seed_of_blank : (e e' : Sender) (line line' : Line) (r : Result Unit Refusal) → Blanks e line r e' line' → e.seed < 65536 → e'.seed < 65536
seed_of_blank e e' line line' (Ok u) (joins, sender) k = subst (λ d. d.seed < 65536) (sym sender) k
seed_of_blank e e' line line' (Err r) h k = subst (λ d. d.seed < 65536) (sym (blank_refused e e' line line' r h).0) k

pub seed_step : (s t : Link) (c : Call) → Step s c t → s.sender.seed < 65536 → t.sender.seed < 65536
seed_step s t (Send n p r) h k = seed_of_send s.sender t.sender s.line t.line n p r h.0 k
seed_step s t (Blank r) h k = seed_of_blank s.sender t.sender s.line t.line r h.0 k
seed_step s t (Disturb n c bytes r) h k = subst (λ l. l.sender.seed < 65536) (sym h.1) k
seed_step s t (Take x) h k = subst (λ l. l.sender.seed < 65536) (sym h.1) k
seed_step s t RestartSender h k = let e = ap (λ l. l.sender.seed) h in omega (arith, e)
seed_step s t RestartReceiver h k = subst (λ l. l.sender.seed < 65536) (sym h) k

pub seed_kept : (s : Link) (h : List CallMade) → New s → Run s h → (now s h).sender.seed < 65536
seed_kept s [] new r = let e = ap (λ k. k.seed) new.sender in omega (arith, e)
seed_kept s (m ∷ h) new r = seed_step (now s h) m.link m.call r.0 (seed_kept s h new r.1)
