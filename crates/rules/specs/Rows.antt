-- The rows of a page, a run of takes that queues them, and the page of a reel.
use Rattle.std.specs.Prelude.{◌≡◌, ℕ, ◌<◌, ◌≤◌, List, [], ◌∷◌, ◌++◌, length, map, take, ℤ, Ok, Err, Some, None, Option}
use Rattle.std.specs.Prelude.{Result}
use Rattle.service.specs.declared.readings.Letter.{Letter}
use Rattle.service.specs.declared.readings.RunEnd.{RunEnd}
use Rattle.service.specs.declared.readings.RunEnd.TheVariants.{Wanted, RowsFull, SupplyEmpty}
use Rattle.service.specs.declared.refusals.Refusal.{Refusal}
use Rattle.service.specs.declared.refusals.Refusal.TheVariants.{UnlawfulReel}
use Rattle.service.specs.Rates.{rate_is}
use Rattle.service.specs.Refusals.{Answer}
use Rattle.rules.specs.Arrivals.{Arrival}
use Rattle.rules.specs.Readings.{Reading}
use Rattle.rules.specs.Ends.{Receiver, Taken, TakesOne, new_receiver}

-- a row, but for the frame's number, which is given when it is printed: the letter, the ten frequencies, and CBGAIN of
-- each codebook subframe of the rate; none if nothing was read
pub record Row : Type 0 where
  pub letter : Letter
  pub frequencies : List ℤ
  pub cbgain : Option (List ℕ)

-- CBGAIN of each codebook subframe that was read
abbrev pub cbgain_read : Option Reading → Option (List ℕ)
cbgain_read (Some r) = Some (take (rate_is r.rate).codebook_subframes r.codes.codebook.cbgain)
cbgain_read None = None

-- the row of what was taken
abbrev pub row_of : Taken → Row
row_of x = record { letter = x.letter; frequencies = x.frequencies; cbgain = cbgain_read x.reading }

-- the rows of what was taken, one of each
abbrev pub rows_of : List Taken → List Row
rows_of xs = map row_of xs

-- ---- a run of takes

-- a receiver takes these, one after another
abbrev pub TakesAll : Receiver → List Arrival → List Taken → Receiver → List Arrival → Type 0
TakesAll e supply [] e' rest = (e' ≡ e) × (rest ≡ supply)
TakesAll e supply (x ∷ xs) e' rest =
    (d : Receiver) × (list : List Arrival) × TakesOne e supply x d list × TakesAll d list xs e' rest

-- what a run answers: how many rows it queued, and which of three ended it
pub record RunAnswer : Type 0 where
  pub rows : ℕ
  pub end : RunEnd

-- Which of three ends a run once it has queued n rows, with so many in the queue and these arrivals left: the first
-- that holds, tested in this order.
abbrev pub EndsRun : RunEnd → (wanted n places queued : ℕ) → List Arrival → Type 0
EndsRun Wanted wanted n places queued rest = wanted ≤ n
EndsRun RowsFull wanted n places queued rest = (n < wanted) × (places ≤ queued)
EndsRun SupplyEmpty wanted n places queued rest = (n < wanted) × (queued < places) × (rest ≡ [])

-- None of the three ends it before a further take: fewer rows than wanted were queued, and the queue has room. That an
-- arrival is left is said by the take.
pub record GoesOn (wanted n places queued : ℕ) : Type 0 where
  pub wanted_more : n < wanted
  pub room : queued < places

-- what a run works on: a receiver, its supply, and the queue of rows
pub record RunState : Type 0 where
  pub receiver : Receiver
  pub supply : List Arrival
  pub rows : List Row

-- a run from s, with a queue of so many places: what it answers, and the state after it
pub record RunsTakes (wanted places : ℕ) (s : RunState) (a : RunAnswer) (t : RunState) : Type 0 where
  pub taken : List Taken
  pub takes : TakesAll s.receiver s.supply taken t.receiver t.supply
  -- before each take, of y after xs, none of the three ended the run
  pub going :
      (xs : List Taken) (y : Taken) (ys : List Taken) → taken ≡ xs ++ (y ∷ ys)
      → GoesOn wanted (length (rows_of xs)) places (length (s.rows ++ rows_of xs))
  pub queued : t.rows ≡ s.rows ++ rows_of taken
  pub counted : a.rows ≡ length (rows_of taken)
  pub ended : EndsRun a.end wanted a.rows places (length t.rows) t.supply

-- ---- a page

-- What the page call does with the arrivals of a reel, or with the answer to its first test that fails: it answers a
-- supply of these arrivals, and the receiver is restarted; or refusal 18, whatever the cause, and the receiver is as it
-- was. What is still to come of a supply is shown by a map of the caller's.
abbrev pub StartsPage :
    {S : Type 0} → (S → List Arrival) → Result (List Arrival) Answer → Receiver → Result S Refusal → Receiver → Type 0
StartsPage to_come (Ok list) e (Ok supply) e' = (to_come supply ≡ list) × (e' ≡ new_receiver)
StartsPage to_come (Ok list) e (Err _) e' = ⊥
StartsPage to_come (Err cause) e (Ok supply) e' = ⊥
StartsPage to_come (Err cause) e (Err UnlawfulReel) e' = e' ≡ e
StartsPage to_come (Err cause) e (Err _) e' = ⊥

-- the rows of the page of a reel whose arrivals these are: a restarted receiver takes them all
abbrev pub PageRows : List Arrival → List Row → Type 0
PageRows supply rows =
    (xs : List Taken) × (e : Receiver) × TakesAll new_receiver supply xs e [] × (rows ≡ rows_of xs)
