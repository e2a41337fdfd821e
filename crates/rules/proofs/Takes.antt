-- Takes one after another, and what makes a run of them.
use Rattle.std.proofs.Common.{◌≡◌, ℕ, zero, suc, ◌+◌, ◌<◌, ◌≤◌, List, [], ◌∷◌, ◌++◌, length, ap, ◌∙◌, arith, refl, sym, subst}
use Rattle.std.proofs.lemmas.List.{length-append, length-map}
use Rattle.service.specs.declared.readings.RunEnd.{RunEnd}
use Rattle.rules.specs.Arrivals.{Arrival}
use Rattle.rules.specs.Ends.{Receiver, Taken}
use Rattle.rules.specs.Rows.{EndsRun, GoesOn, Row, RunAnswer, RunState, RunsTakes, TakesAll, row_of, rows_of}

-- ---- takes

pub takes_length : (e : Receiver) (supply : List Arrival) (xs : List Taken) (d : Receiver) (rest : List Arrival) → TakesAll e supply xs d rest → length supply ≡ length xs + length rest
takes_length e supply [] d rest (kept, left) = let l = ap length left in omega arith
takes_length e supply (x ∷ xs) d rest (c, list, one, more) =
    let l = ap length one.first in let m = takes_length c list xs d rest more in omega arith

pub takes_join : (e d c : Receiver) (supply list rest : List Arrival) (xs ys : List Taken) → TakesAll e supply xs d list → TakesAll d list ys c rest
    → TakesAll e supply (xs ++ ys) c rest
takes_join e d c supply list rest [] ys (kept, left) more = subst (λ l. TakesAll e l ys c rest) left (subst (λ r. TakesAll r list ys c rest) kept more)
takes_join e d c supply list rest (x ∷ xs) ys (b, between, one, others) more = (b, between, one, takes_join b d c between list rest xs ys others more)

-- ---- before each take of a run

-- a list of more than n, parted behind its first n
pub record Parted {A : Type 0} (zs : List A) (n : ℕ) : Type 0 where
  pub front : List A
  pub next : A
  pub back : List A
  pub whole : zs ≡ front ++ (next ∷ back)
  pub many : length front ≡ n

pub part_at : {A : Type 0} (zs : List A) (n : ℕ) → n < length zs → Parted zs n
part_at [] n h = absurd (omega arith)
part_at (z ∷ zs) zero h = record { front = []; next = z; back = zs; whole = refl; many = refl }
part_at (z ∷ zs) (suc n) h =
    let r = part_at zs n (omega arith) in
    record { front = z ∷ r.front; next = r.next; back = r.back; whole = ap (λ l. z ∷ l) r.whole; many = ap suc r.many }

pub no_parts : {A : Type 0} (xs : List A) (y : A) (ys : List A) → [] ≡ xs ++ (y ∷ ys) → ⊥
no_parts [] y ys e = absurd (omega (arith, ap length e))
no_parts (x ∷ xs) y ys e = absurd (omega (arith, ap length e))

-- there are as many rows as takes
pub row_count : (xs : List Taken) → length (rows_of xs) ≡ length xs
row_count xs = length-map xs row_of

pub queue_count : (queue : List Row) (xs : List Taken) → length (queue ++ rows_of xs) ≡ length queue + length xs
queue_count queue xs = length-append queue (rows_of xs) ∙ ap (λ n. length queue + n) (row_count xs)

-- ---- a run

going : (wanted places : ℕ) (queue : List Row) (taken : List Taken) → length (rows_of taken) ≤ wanted → length (queue ++ rows_of taken) ≤ places
    → (xs : List Taken) (y : Taken) (ys : List Taken) → taken ≡ xs ++ (y ∷ ys) → GoesOn wanted (length (rows_of xs)) places (length (queue ++ rows_of xs))
going wanted places queue taken few fits xs y ys e =
    let many = ap length e ∙ length-append xs (y ∷ ys) in
    let all = length-append queue (rows_of taken) in
    record {
      wanted_more = omega (arith, many, few, length-map xs row_of, length-map taken row_of);
      room = omega (arith, many, all, fits, length-append queue (rows_of xs), length-map xs row_of, length-map taken row_of);
    }

-- takes whose rows are no more than are wanted, and than the queue can hold, are a run
pub run_of_takes : (wanted places n : ℕ) (s t : RunState) (end : RunEnd) (taken : List Taken) → TakesAll s.receiver s.supply taken t.receiver t.supply
    → t.rows ≡ s.rows ++ rows_of taken → n ≡ length (rows_of taken) → n ≤ wanted → length t.rows ≤ places → EndsRun end wanted n places (length t.rows) t.supply
    → RunsTakes wanted places s (record { rows = n; end = end }) t
run_of_takes wanted places n s t end taken takes queued counted few fits ended = record {
  taken = taken;
  takes = takes;
  going = going wanted places s.rows taken (omega (arith, counted)) (omega (arith, ap length queued));
  queued = queued;
  counted = counted;
  ended = ended;
}

-- a run queues no more rows than are wanted, and than the queue can hold
pub run_within : (wanted places : ℕ) (s t : RunState) (a : RunAnswer) → RunsTakes wanted places s a t → length s.rows ≤ places
    → (a.rows ≤ wanted) × (length t.rows ≤ places) × (length t.rows ≡ length s.rows + a.rows)
run_within wanted places s t a r fits = within a.rows refl
  where
    sum : length t.rows ≡ length s.rows + a.rows
    sum = ap length r.queued ∙ length-append s.rows (rows_of r.taken) ∙ ap (λ n. length s.rows + n) (sym r.counted)

    within : (n : ℕ) → n ≡ a.rows → (a.rows ≤ wanted) × (length t.rows ≤ places) × (length t.rows ≡ length s.rows + a.rows)
    within zero e = (omega (arith, e), omega (arith, e, sum, fits), sum)
    within (suc n) e =
        let p = part_at r.taken n (omega (arith, e, r.counted, length-map r.taken row_of)) in
        let on = r.going p.front p.next p.back p.whole in (
          omega (arith, e, on.wanted_more, p.many, length-map p.front row_of),
          omega (arith, e, sum, on.room, p.many, length-append s.rows (rows_of p.front), length-map p.front row_of),
          sum,
        )
