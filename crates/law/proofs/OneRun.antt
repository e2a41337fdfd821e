-- Every run of takes has one answer, and takes one after another are take calls.
use Rattle.std.proofs.Common.{◌≡◌, ℕ, zero, suc, ◌+◌, ◌<◌, List, [], ◌∷◌, ◌++◌, length, map, Some, refl, sym, ap, ap₂, subst, ◌∙◌, inl, inr, append_assoc, append-nil, arith, Ok, Err, Result, reverse}
use Rattle.std.proofs.lemmas.Bool.{cases_lt, cases_order}
use Rattle.std.proofs.lemmas.List.{length-append, reverse-append}
use Rattle.service.specs.declared.refusals.Refusal.{Refusal}
use Rattle.service.specs.declared.refusals.Refusal.TheVariants.{UnlawfulReel}
use Rattle.service.specs.declared.readings.RunEnd.{RunEnd}
use Rattle.service.specs.declared.readings.RunEnd.TheVariants.{Wanted, RowsFull, SupplyEmpty}
use Rattle.rules.specs.Arrivals.{Arrival}
use Rattle.rules.specs.Ends.{Receiver, Taken, TakesOne, new_receiver}
use Rattle.rules.specs.Links.{Line, Link, Source, other_supply, line_left, link_after_take, source_left, this_line, to_come, to_come_from}
use Rattle.service.specs.Refusals.{Answer}
use Rattle.rules.specs.Pages.{PageOf, header_text, refusal_line, rows_text}
use Rattle.rules.specs.Reels.{arrivals_of}
use Rattle.rules.specs.Rows.{EndsRun, GoesOn, PageRows, Row, RunAnswer, RunState, RunsTakes, StartsPage, TakesAll, row_of, rows_of}
use Rattle.law.specs.Runs.{CallMade, RestartReceiver, Run, Step, Take, now}
use Rattle.law.specs.Answers.{ChainOfTakesIsARun, ChainsOfTakesJoin, EachTakeIsACall, OneAnswerToEachRunOfTakes, OnePage, TakesAreCalls}
use Rattle.rules.proofs.Takes.{no_parts, part_at, queue_count, row_count, takes_join as join, takes_length}
use Rattle.law.proofs.OneTake.{take_once, take_some, takes_on, to_come_after}

abbrev state : Receiver → List Arrival → List Row → RunState
state e supply rows = record { receiver = e; supply = supply; rows = rows }

-- ---- a run has an answer

record RunAnswered (wanted places : ℕ) (e : Receiver) (supply : List Arrival) (queue : List Row) : Type 0 where
  answer : RunAnswer
  receiver : Receiver
  rest : List Arrival
  rows : List Row
  runs : RunsTakes wanted places (state e supply queue) answer (state receiver rest rows)

-- nothing is taken, for one of the three reasons
none_taken : (wanted places : ℕ) (e : Receiver) (supply : List Arrival) (queue : List Row) (end : RunEnd)
    → EndsRun end wanted 0 places (length queue) supply → RunAnswered wanted places e supply queue
none_taken wanted places e supply queue end ended = record {
  answer = record { rows = 0; end = end };
  receiver = e;
  rest = supply;
  rows = queue;
  runs = record {
    taken = [];
    takes = (refl, refl);
    going = λ xs y ys none. absurd (no_parts xs y ys none);
    queued = sym (append-nil queue);
    counted = refl;
    ended = ended;
  };
}

one_more_ended : (end : RunEnd) (wanted n places queued : ℕ) (rest : List Arrival) → EndsRun end wanted n places queued rest
    → EndsRun end (suc wanted) (suc n) places queued rest
one_more_ended Wanted wanted n places queued rest l = omega arith
one_more_ended RowsFull wanted n places queued rest (l, e) = (omega arith, e)
one_more_ended SupplyEmpty wanted n places queued rest (l, h, e) = (omega arith, h, e)

-- the takes behind the first go on as those of the run that begins there
still_going : (wanted places : ℕ) (queue : List Row) (x : Taken) (taken : List Taken) → length queue < places
    → ((xs : List Taken) (y : Taken) (ys : List Taken) → taken ≡ xs ++ (y ∷ ys)
    → GoesOn wanted (length (rows_of xs)) places (length ((queue ++ (row_of x ∷ [])) ++ rows_of xs)))
    → (xs : List Taken) (y : Taken) (ys : List Taken) → x ∷ taken ≡ xs ++ (y ∷ ys)
    → GoesOn (suc wanted) (length (rows_of xs)) places (length (queue ++ rows_of xs))
still_going wanted places queue x taken room going [] y ys e =
    record { wanted_more = omega arith; room = omega (arith, length-append queue []) }
still_going wanted places queue x taken room going (z ∷ zs) y ys e =
    let first : x ≡ z = cc in
    let others : taken ≡ zs ++ (y ∷ ys) = cc in
    let on = going zs y ys others in
    let same : length ((queue ++ (row_of x ∷ [])) ++ rows_of zs) ≡ length (queue ++ (row_of z ∷ rows_of zs)) =
    ap length (append_assoc queue (row_of x ∷ []) (rows_of zs)) ∙ ap (λ q. length (queue ++ (row_of q ∷ rows_of zs))) first in
    record { wanted_more = let l = on.wanted_more in omega arith; room = let l = on.room in omega (arith, same) }

-- one is taken, and then the others
one_more_taken : (wanted places : ℕ) (e d : Receiver) (a : Arrival) (supply : List Arrival) (queue : List Row) (x : Taken)
    → length queue < places → TakesOne e (a ∷ supply) x d supply
    → RunAnswered wanted places d supply (queue ++ (row_of x ∷ [])) → RunAnswered (suc wanted) places e (a ∷ supply) queue
one_more_taken wanted places e d a supply queue x room one r =
    let q = r.runs in
    record {
      answer = record { rows = suc r.answer.rows; end = r.answer.end };
      receiver = r.receiver;
      rest = r.rest;
      rows = r.rows;
      runs = record {
        taken = x ∷ q.taken;
        takes = (d, supply, one, q.takes);
        going = still_going wanted places queue x q.taken room q.going;
        queued = q.queued ∙ append_assoc queue (row_of x ∷ []) (rows_of q.taken);
        counted = ap suc q.counted;
        ended = one_more_ended r.answer.end wanted r.answer.rows places (length r.rows) r.rest q.ended;
      };
    }

run_some : (wanted places : ℕ) (e : Receiver) (supply : List Arrival) (queue : List Row) → RunAnswered wanted places e supply queue
run_some zero places e supply queue = none_taken 0 places e supply queue Wanted (omega arith)
run_some (suc wanted) places e [] queue = elim (cases_lt (length queue) places) [
  | inl room ↦ none_taken (suc wanted) places e [] queue SupplyEmpty (omega arith, room, refl)
  | inr full ↦ none_taken (suc wanted) places e [] queue RowsFull (omega arith, full)
]
run_some (suc wanted) places e (a ∷ supply) queue = elim (cases_lt (length queue) places) [
  | inl room ↦
      let (x, d, one) = take_some e a supply in
      one_more_taken wanted places e d a supply queue x room one (run_some wanted places d supply (queue ++ (row_of x ∷ [])))
  | inr full ↦ none_taken (suc wanted) places e (a ∷ supply) queue RowsFull (omega arith, full)
]

-- ---- and one only

-- as many takes of one receiver from one supply are the same
record SameTakes (xs ys : List Taken) (d d' : Receiver) (rest rest' : List Arrival) : Type 0 where
  taken : xs ≡ ys
  receiver : d ≡ d'
  supply : rest ≡ rest'

takes_once : (e : Receiver) (supply : List Arrival) (xs ys : List Taken) (d d' : Receiver) (rest rest' : List Arrival) → length xs ≡ length ys
    → TakesAll e supply xs d rest → TakesAll e supply ys d' rest' → SameTakes xs ys d d' rest rest'
takes_once e supply [] [] d d' rest rest' long (kept, left) (kept', left') = record { taken = refl; receiver = kept ∙ sym kept'; supply = left ∙ sym left' }
takes_once e supply [] (y ∷ ys) d d' rest rest' long p q = absurd (omega arith)
takes_once e supply (x ∷ xs) [] d d' rest rest' long p q = absurd (omega arith)
takes_once e supply (x ∷ xs) (y ∷ ys) d d' rest rest' long (c, list, one, more) (c', list', one', more') =
    let first = take_once e supply x y c c' list list' one one' in
    let same = takes_once c' list' xs ys d d' rest rest' (omega arith)
    (subst (λ l. TakesAll c' l xs d rest) first.supply (subst (λ r. TakesAll r list xs d rest) first.receiver more)) more' in
    record { taken = ap₂ (λ z zs. z ∷ zs) first.answer same.taken; receiver = same.receiver; supply = same.supply }

-- a run that has ended does not go on
ended_not_more : (end : RunEnd) (wanted n places queued left : ℕ) (rest : List Arrival) → EndsRun end wanted n places queued rest
    → left ≡ length rest → n < wanted → queued < places → 0 < left → ⊥
ended_not_more Wanted wanted n places queued left rest e l w p g = omega arith
ended_not_more RowsFull wanted n places queued left rest (k, e) l w p g = omega arith
ended_not_more SupplyEmpty wanted n places queued left rest (k, u, e) l w p g = let z = ap length e in omega arith

module _ (wanted places : ℕ) (e : Receiver) (supply : List Arrival) (queue : List Row) where
  -- before take n + 1 of a run
  goes_on_at : (a : RunAnswer) (d : Receiver) (rest : List Arrival) (rows : List Row) (r : RunsTakes wanted places (state e supply queue) a (state d rest rows)) (n : ℕ)
      → n < length r.taken → (n < wanted) × (length queue + n < places)
  goes_on_at a d rest rows r n l =
      let p = part_at r.taken n l in
      let on = r.going p.front p.next p.back p.whole in
      let w = on.wanted_more in
      let m = on.room in
      (omega (arith, row_count p.front, p.many), omega (arith, queue_count queue p.front, p.many))

  not_shorter : (a a' : RunAnswer) (d d' : Receiver) (rest rest' : List Arrival) (rows rows' : List Row) (r : RunsTakes wanted places (state e supply queue) a (state d rest rows))
      (q : RunsTakes wanted places (state e supply queue) a' (state d' rest' rows')) → length r.taken < length q.taken → ⊥
  not_shorter a a' d d' rest rest' rows rows' r q less =
      let n = length r.taken in
      let on = goes_on_at a' d' rest' rows' q n less in
      let long = takes_length e supply r.taken d rest r.takes in
      let long' = takes_length e supply q.taken d' rest' q.takes in
      let many : a.rows ≡ n = r.counted ∙ row_count r.taken in
      let long_queue : length rows ≡ length queue + n = ap length r.queued ∙ queue_count queue r.taken in
      ended_not_more a.end wanted a.rows places (length rows) (length rest) rest r.ended refl (omega (arith, on.0)) (omega (arith, on.1)) (omega arith)

  as_many : (a a' : RunAnswer) (d d' : Receiver) (rest rest' : List Arrival) (rows rows' : List Row) (r : RunsTakes wanted places (state e supply queue) a (state d rest rows))
      (q : RunsTakes wanted places (state e supply queue) a' (state d' rest' rows')) → length r.taken ≡ length q.taken
  as_many a a' d d' rest rest' rows rows' r q = elim (cases_order (length r.taken) (length q.taken)) [
    | inl same ↦ same
    | inr (inl less) ↦ absurd (not_shorter a a' d d' rest rest' rows rows' r q less)
    | inr (inr more) ↦ absurd (not_shorter a' a d' d rest' rest rows' rows q r more)
  ]

  end_once : (end end' : RunEnd) (n m queued queued' : ℕ) (rest rest' : List Arrival) → n ≡ m → queued ≡ queued'
      → EndsRun end wanted n places queued rest → EndsRun end' wanted m places queued' rest' → end ≡ end'
  end_once Wanted Wanted n m queued queued' rest rest' e d p q = refl
  end_once Wanted RowsFull n m queued queued' rest rest' e d p (l, k) = absurd (omega arith)
  end_once Wanted SupplyEmpty n m queued queued' rest rest' e d p (l, h, k) = absurd (omega arith)
  end_once RowsFull Wanted n m queued queued' rest rest' e d (l, k) q = absurd (omega arith)
  end_once RowsFull RowsFull n m queued queued' rest rest' e d p q = refl
  end_once RowsFull SupplyEmpty n m queued queued' rest rest' e d (l, k) (l', h, k') = absurd (omega arith)
  end_once SupplyEmpty Wanted n m queued queued' rest rest' e d (l, h, k) q = absurd (omega arith)
  end_once SupplyEmpty RowsFull n m queued queued' rest rest' e d (l, h, k) (l', k') = absurd (omega arith)
  end_once SupplyEmpty SupplyEmpty n m queued queued' rest rest' e d p q = refl

  abbrev answer_of : ℕ → RunEnd → RunAnswer
  answer_of rows end = record { rows = rows; end = end }

  run_once : (a a' : RunAnswer) (d d' : Receiver) (rest rest' : List Arrival) (rows rows' : List Row) → RunsTakes wanted places (state e supply queue) a (state d rest rows)
      → RunsTakes wanted places (state e supply queue) a' (state d' rest' rows') → (a ≡ a') × (state d rest rows ≡ state d' rest' rows')
  run_once a a' d d' rest rest' rows rows' r q =
      let long = as_many a a' d d' rest rest' rows rows' r q in
      let same = takes_once e supply r.taken q.taken d d' rest rest' long r.takes q.takes in
      let queues : rows ≡ rows' = r.queued ∙ ap (λ xs. queue ++ rows_of xs) same.taken ∙ sym q.queued in
      let counts : a.rows ≡ a'.rows = r.counted ∙ ap (λ xs. length (rows_of xs)) same.taken ∙ sym q.counted in
      let end : a.end ≡ a'.end = end_once a.end a'.end a.rows a'.rows (length rows) (length rows') rest rest' counts (ap length queues) r.ended q.ended in (
        ap (λ n. answer_of n a.end) counts ∙ ap (λ x. answer_of a'.rows x) end,
        ap₂ (λ x y. state x y rows) same.receiver same.supply ∙ ap (state d' rest') queues,
      )

pub one_run : OneAnswerToEachRunOfTakes
one_run = record {
  some = λ wanted places s.
      let r = run_some wanted places s.receiver s.supply s.rows in
      (r.answer, state r.receiver r.rest r.rows, r.runs);
  only = λ wanted places s t t' a a' r q.
      run_once wanted places s.receiver s.supply s.rows a a' t.receiver t'.receiver t.supply t'.supply t.rows t'.rows r q;
}

-- ---- takes one after another are calls

line_as_is : (u : Source) (line : Line) → line_left u (to_come_from u line) line ≡ line
line_as_is this_line line = refl
line_as_is (other_supply list) line = refl

source_as_is : (u : Source) (line : Line) → source_left u (to_come_from u line) ≡ u
source_as_is this_line line = refl
source_as_is (other_supply list) line = refl

line_left_again : (u : Source) (line : Line) (list rest : List Arrival) → line_left (source_left u list) rest (line_left u list line) ≡ line_left u rest line
line_left_again this_line line list rest = refl
line_left_again (other_supply l) line list rest = refl

source_left_again : (u : Source) (list rest : List Arrival) → source_left (source_left u list) rest ≡ source_left u rest
source_left_again this_line list rest = refl
source_left_again (other_supply l) list rest = refl

abbrev link_of : Link → Receiver → Line → Source → Link
link_of s e line source = record s { line = line; receiver = e; source = source }

-- nothing taken
link_as_is : (s : Link) → s ≡ link_after_take s.receiver (to_come s) s
link_as_is s = sym (ap₂ (λ line u. link_of s s.receiver line u) (line_as_is s.source s.line) (source_as_is s.source s.line))

-- taken, and taken once more
link_taken_again : (e d : Receiver) (list rest : List Arrival) (s : Link) → link_after_take e rest (link_after_take d list s) ≡ link_after_take e rest s
link_taken_again e d list rest s =
    ap₂ (λ line u. link_of s e line u) (line_left_again s.source s.line list rest) (source_left_again s.source list rest)

-- a call before a history
module _ (s : Link) (m : CallMade) where
  abbrev before : List CallMade → List CallMade
  before h = h ++ (m ∷ [])

  pub now_before : (h : List CallMade) → now s (before h) ≡ now m.link h
  now_before [] = refl
  now_before (k ∷ h) = refl

  pub run_before : Step s m.call m.link → (h : List CallMade) → Run m.link h → Run s (before h)
  run_before step [] run = (step, tt)
  run_before step (k ∷ h) (last, run) = (subst (λ t. Step t k.call k.link) (sym (now_before h)) last, run_before step h run)

-- the calls of a history with one before them, the first first
pub calls_before : (m : CallMade) (h : List CallMade) → map (λ k. k.call) (reverse (h ++ (m ∷ []))) ≡ m.call ∷ map (λ k. k.call) (reverse h)
calls_before m h = ap (map (λ k. k.call)) (reverse-append h (m ∷ []))

-- a take call, and those after it
take_then : (s : Link) (x : Taken) (xs : List Taken) (d e : Receiver) (list rest : List Arrival) → TakesOne s.receiver (to_come s) x d list
    → TakesAreCalls (link_after_take d list s) xs e rest → TakesAreCalls s (x ∷ xs) e rest
take_then s x xs d e list rest one r =
    let t = link_after_take d list s in
    let m : CallMade = record { call = Take (Some x); link = t } in
    record {
      history = r.history ++ (m ∷ []);
      run = run_before s m (takes_on s (Some x) d list one) r.history r.run;
      calls = calls_before m r.history ∙ ap (λ l. Take (Some x) ∷ l) r.calls;
      link = now_before s m r.history ∙ r.link ∙ link_taken_again e d list rest s;
    }

are_calls : (xs : List Taken) (s : Link) (e : Receiver) (rest : List Arrival) → TakesAll s.receiver (to_come s) xs e rest → TakesAreCalls s xs e rest
are_calls [] s e rest (kept, left) = record {
  history = [];
  run = tt;
  calls = refl;
  link = link_as_is s ∙ ap₂ (λ d list. link_after_take d list s) (sym kept) (sym left);
}
are_calls (x ∷ xs) s e rest (d, list, one, more) =
    take_then s x xs d e list rest one
    (are_calls xs (link_after_take d list s) e rest (subst (λ l. TakesAll d l xs e rest) (sym (to_come_after d list s)) more))

pub takes_are_calls : ChainOfTakesIsARun
takes_are_calls s xs e rest takes = are_calls xs s e rest takes

pub each_take_is_a_call : EachTakeIsACall
each_take_is_a_call s x e rest takes = takes_on s x e rest takes

-- ---- a page

page_some : (e : Receiver) (supply : List Arrival) → (xs : List Taken) × (d : Receiver) × TakesAll e supply xs d []
page_some e [] = ([], e, (refl, refl))
page_some e (a ∷ supply) =
    let (x, b, one) = take_some e a supply in
    let (xs, d, more) = page_some b supply in
    (x ∷ xs, d, (b, supply, one, more))

-- a supply is shown as the list of what is to come
abbrev plain : List Arrival → List Arrival
plain list = list

start_some : (reel : Result (List Arrival) Answer) (e : Receiver) → (r : Result (List Arrival) Refusal) × (d : Receiver) × StartsPage plain reel e r d
start_some (Ok list) e = (Ok list, new_receiver, (refl, refl))
start_some (Err cause) e = (Err UnlawfulReel, e, refl)

-- what the page call does, by whether the reel is lawful
start_is : (reel : Result (List Arrival) Answer) (e d : Receiver) (r : Result (List Arrival) Refusal) → StartsPage plain reel e r d
    → (r ≡ (start_some reel e).0) × (d ≡ (start_some reel e).1)
unfolding start_some
start_is (Ok list) e d (Ok supply) (is, new) = (ap Ok is, new)
start_is (Ok list) e d (Err r) none = absurd none
start_is (Err cause) e d (Ok supply) none = absurd none
start_is (Err cause) e d (Err UnlawfulReel) kept = (refl, kept)
start_is (Err cause) e d (Err r) none = absurd none

start_restarts : (reel : Result (List Arrival) Answer) (s : Link) (supply : List Arrival) (e : Receiver) → StartsPage plain reel s.receiver (Ok supply) e
    → Step s RestartReceiver (record s { receiver = e })
start_restarts (Ok list) s supply e (is, new) = ap (λ d. record s { receiver = d }) new
start_restarts (Err cause) s supply e none = absurd none

rows_some : (supply : List Arrival) → (rows : List Row) × PageRows supply rows
rows_some supply = let (xs, d, takes) = page_some new_receiver supply in (rows_of xs, (xs, d, takes, refl))

rows_once : (supply : List Arrival) (rows rows' : List Row) → PageRows supply rows → PageRows supply rows' → rows ≡ rows'
rows_once supply rows rows' (xs, d, takes, is) (ys, d', takes', is') =
    let l = takes_length new_receiver supply xs d [] takes in
    let l' = takes_length new_receiver supply ys d' [] takes' in
    let same = takes_once new_receiver supply xs ys d d' [] [] (omega (arith, l, l')) takes takes' in
    is ∙ ap rows_of same.taken ∙ sym is'

text_some : (reel : Result (List Arrival) Answer) → (text : List ℕ) × PageOf reel text
text_some (Ok supply) = let (rows, page) = rows_some supply in (header_text ++ rows_text 1 rows, (rows, page, refl))
text_some (Err cause) = (refusal_line 18, refl)

text_once : (reel : Result (List Arrival) Answer) (text text' : List ℕ) → PageOf reel text → PageOf reel text' → text ≡ text'
text_once (Ok supply) text text' (rows, page, is) (rows', page', is') =
    is ∙ ap (λ l. header_text ++ rows_text 1 l) (rows_once supply rows rows' page page') ∙ sym is'
text_once (Err cause) text text' is is' = is ∙ sym is'

pub one_page : OnePage
one_page = record {
  start = start_some;
  only_start = λ reel e d d' r r' a b.
      let p = start_is reel e d r a in
      let q = start_is reel e d' r' b in
      (p.0 ∙ sym q.0, p.1 ∙ sym q.1);
  restarts = start_restarts;
  some = rows_some;
  only = rows_once;
  text = λ bytes. text_some (arrivals_of bytes);
  only_text = λ bytes. text_once (arrivals_of bytes);
}

pub takes_join : ChainsOfTakesJoin
takes_join = join
