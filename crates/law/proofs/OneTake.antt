-- Taking has one answer, and alters nothing but the receiver and the supply.
use Rattle.std.proofs.Common.{◌≡◌, List, [], ◌∷◌, get_or, drop, ℤ, Some, None, Option, refl, sym, ap, ap₂, subst, ◌∙◌}
use Rattle.service.specs.declared.readings.Letter.{Letter}
use Rattle.lsp.specs.States.{frequencies}
use Rattle.rules.specs.Arrivals.{Arrival}
use Rattle.rules.specs.Readings.{Reading, Reads}
use Rattle.rules.specs.Ends.{Receiver, Taken, Takes, TakesOne, receiver_after}
use Rattle.rules.specs.Links.{Line, Link, Source, TakesFromSource, other_supply, line_left, link_after_take, source_left, this_line, to_come, to_come_from}
use Rattle.law.proofs.OneReading.{one_way, some_way}

-- ---- one arrival

pub take_some : (e : Receiver) (a : Arrival) (rest : List Arrival) → (x : Taken) × (d : Receiver) × TakesOne e (a ∷ rest) x d rest
take_some e a rest =
    let (l, x, r) = some_way a.category a.bytes in
    let d = receiver_after l x e in (
      record { arrival = a; letter = l; frequencies = frequencies d.memories; reading = x },
      d,
      record { first = refl; received = record { read = r; receiver = refl; answer = refl } },
    )

abbrev taken_of : Arrival → Letter → List ℤ → Option Reading → Taken
taken_of a l f r = record { arrival = a; letter = l; frequencies = f; reading = r }

-- two takes of one receiver from one supply
pub record SameTake (x x' : Taken) (d d' : Receiver) (rest rest' : List Arrival) : Type 0 where
  pub answer : x ≡ x'
  pub receiver : d ≡ d'
  pub supply : rest ≡ rest'

pub take_once : (e : Receiver) (supply : List Arrival) (x x' : Taken) (d d' : Receiver) (rest rest' : List Arrival) → TakesOne e supply x d rest → TakesOne e supply x' d' rest'
    → SameTake x x' d d' rest rest'
take_once e supply x x' d d' rest rest' p q =
    let lists : x.arrival ∷ rest ≡ x'.arrival ∷ rest' = sym p.first ∙ q.first in
    let arrival : x.arrival ≡ x'.arrival = ap (λ l. get_or l 0 x.arrival) lists in
    let way = one_way x'.arrival.category x'.arrival.bytes x.letter x'.letter x.reading x'.reading
    (subst (λ (a : Arrival). Reads a.category a.bytes x.letter x.reading) arrival p.received.read) q.received.read in
    let receiver : d ≡ d' = p.received.receiver ∙ ap₂ (λ l r. receiver_after l r e) way.0 way.1 ∙ sym q.received.receiver in
    record {
      answer =
          ap (λ a. taken_of a x.letter x.frequencies x.reading) arrival
          ∙ ap (λ l. taken_of x'.arrival l x.frequencies x.reading) way.0
          ∙ ap (λ f. taken_of x'.arrival x'.letter f x.reading) (p.received.answer ∙ ap (λ (r : Receiver). frequencies r.memories) receiver ∙ sym q.received.answer)
          ∙ ap (λ r. taken_of x'.arrival x'.letter x'.frequencies r) way.1;
      receiver = receiver;
      supply = ap (λ l. drop 1 l) lists;
    }

-- ---- or none

some_not_none : (supply : List Arrival) (a : Arrival) (rest : List Arrival) → supply ≡ a ∷ rest → supply ≡ [] → ⊥
some_not_none supply a rest e d = subst HasFirst (sym e ∙ d) tt
  where
    HasFirst : List Arrival → Type 0
    HasFirst [] = ⊥
    HasFirst (b ∷ list) = Unit {0}

pub record SameTakes (x x' : Option Taken) (d d' : Receiver) (rest rest' : List Arrival) : Type 0 where
  pub answer : x ≡ x'
  pub receiver : d ≡ d'
  pub supply : rest ≡ rest'

takes_once : (e : Receiver) (supply : List Arrival) (x x' : Option Taken) (d d' : Receiver) (rest rest' : List Arrival) → Takes e supply x d rest → Takes e supply x' d' rest'
    → SameTakes x x' d d' rest rest'
takes_once e supply (Some x) (Some x') d d' rest rest' p q =
    let same = take_once e supply x x' d d' rest rest' p q in
    record { answer = ap Some same.answer; receiver = same.receiver; supply = same.supply }
takes_once e supply (Some x) None d d' rest rest' p ((none, q), kept) = absurd (some_not_none supply x.arrival rest p.first none)
takes_once e supply None (Some x') d d' rest rest' ((none, p), kept) q = absurd (some_not_none supply x'.arrival rest' q.first none)
takes_once e supply None None d d' rest rest' ((none, empty), kept) ((none', empty'), kept') =
    record { answer = refl; receiver = kept ∙ sym kept'; supply = empty ∙ sym empty' }

-- ---- of a link

left_to_come : (u : Source) (line : Line) (rest : List Arrival) → to_come_from (source_left u rest) (line_left u rest line) ≡ rest
left_to_come this_line line rest = refl
left_to_come (other_supply list) line rest = refl

-- what is left to come is what is left of the supply
pub to_come_after : (e : Receiver) (rest : List Arrival) (s : Link) → to_come (link_after_take e rest s) ≡ rest
to_come_after e rest s = left_to_come s.source s.line rest

link_some : (s : Link) (supply : List Arrival) → to_come s ≡ supply → (x : Option Taken) × (d : Receiver) × (rest : List Arrival) × Takes s.receiver supply x d rest
link_some s [] e = (None, s.receiver, [], ((refl, refl), refl))
link_some s (a ∷ rest) e = let (x, d, p) = take_some s.receiver a rest in (Some x, d, rest, p)

-- the link after a take of its receiver
pub takes_on : (s : Link) (x : Option Taken) (d : Receiver) (rest : List Arrival) → Takes s.receiver (to_come s) x d rest → TakesFromSource s x (link_after_take d rest s)
takes_on s x d rest p =
    let left = to_come_after d rest s in
    (subst (λ list. Takes s.receiver (to_come s) x d list) (sym left) p, ap (λ list. link_after_take d list s) (sym left))

pub from_supply_some : (s : Link) → (x : Option Taken) × (t : Link) × TakesFromSource s x t
from_supply_some s = let (x, d, rest, p) = link_some s (to_come s) refl in (x, link_after_take d rest s, takes_on s x d rest p)

pub from_supply_once : (s t t' : Link) (x x' : Option Taken) → TakesFromSource s x t → TakesFromSource s x' t' → (x ≡ x') × (t ≡ t')
from_supply_once s t t' x x' (p, e) (q, d) =
    let same = takes_once s.receiver (to_come s) x x' t.receiver t'.receiver (to_come t) (to_come t') p q in
    (same.answer, e ∙ ap₂ (λ r list. link_after_take r list s) same.receiver same.supply ∙ sym d)
