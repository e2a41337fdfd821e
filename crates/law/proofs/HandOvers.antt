-- A supply hands over in one way, and a take hands over into the place that was lent.
use Rattle.std.proofs.Common.{◌≡◌, ℕ, ◌+◌, Bool, true, false, is_some, List, [], ◌∷◌, length, get_or, drop, Some, None, Option, refl, sym, ap, subst, ◌∙◌, arith}
use Rattle.rules.specs.Arrivals.{Arrival, Counts, HandedOver, HandsOver}
use Rattle.rules.specs.Ends.{Receiver, Receives, Taken, Takes, place_after}
use Rattle.law.specs.Answers.{EachTakeFillsThePlace, HandOversAreCounted, OneHandOver}

-- ---- a supply

some_not_none : {A : Type 0} (supply : List A) (a : A) (rest : List A) → supply ≡ a ∷ rest → supply ≡ [] → ⊥
some_not_none {A} supply a rest e d = subst HasFirst (sym e ∙ d) tt
  where
    HasFirst : List A → Type 0
    HasFirst [] = ⊥
    HasFirst (b ∷ list) = Unit {0}

handed_some : {A : Type 0} (supply : List A) → (x : Option A) × (rest : List A) × HandsOver supply x rest
handed_some [] = (None, [], (refl, refl))
handed_some (a ∷ rest) = (Some a, rest, refl)

handed_once : {A : Type 0} (supply rest rest' : List A) (x x' : Option A) → HandsOver supply x rest → HandsOver supply x' rest' → (x ≡ x') × (rest ≡ rest')
handed_once supply rest rest' (Some a) (Some b) e d =
    let lists = sym e ∙ d in (ap (λ l. Some (get_or l 0 a)) lists, ap (λ l. drop 1 l) lists)
handed_once supply rest rest' (Some a) None e (none, empty) = absurd (some_not_none supply a rest e none)
handed_once supply rest rest' None (Some b) (none, empty) e = absurd (some_not_none supply b rest' e none)
handed_once supply rest rest' None None (none, empty) (none', empty') = (refl, empty ∙ sym empty')

into_place_some : {A : Type 0} (supply : List A) (place : A) → (b : Bool) × (rest : List A) × (after : A) × HandedOver supply place b rest after
into_place_some [] place = (false, [], place, ((refl, refl), refl))
into_place_some (a ∷ rest) place = (true, rest, a, refl)

into_place_once : {A : Type 0} (supply rest rest' : List A) (place after after' : A) (b b' : Bool) → HandedOver supply place b rest after
    → HandedOver supply place b' rest' after' → (b ≡ b') × (rest ≡ rest') × (after ≡ after')
into_place_once supply rest rest' place after after' true true e d =
    let lists = sym e ∙ d in (refl, ap (λ l. drop 1 l) lists, ap (λ l. get_or l 0 after) lists)
into_place_once supply rest rest' place after after' true false e ((none, empty), kept) = absurd (some_not_none supply after rest e none)
into_place_once supply rest rest' place after after' false true ((none, empty), kept) e = absurd (some_not_none supply after' rest' e none)
into_place_once supply rest rest' place after after' false false ((none, empty), kept) ((none', empty'), kept') =
    (refl, empty ∙ sym empty', kept ∙ sym kept')

count_once : {A : Type 0} (supply rest rest' : List A) (n n' : ℕ) → Counts supply n rest → Counts supply n' rest' → (n ≡ n') × (rest ≡ rest')
count_once supply rest rest' n n' (many, kept) (many', kept') = (many ∙ sym many', kept ∙ sym kept')

pub one_hand_over : (A : Type 0) → OneHandOver A
one_hand_over A = record {
  handed = handed_some;
  only_handed = handed_once;
  into_place = into_place_some;
  only_into_place = into_place_once;
  count = λ supply. (length supply, supply, (refl, refl));
  only_count = count_once;
}

count_each : {A : Type 0} (supply same rest left : List A) (x : A) (n m : ℕ) → Counts supply n same → HandsOver same (Some x) rest
    → Counts rest m left → n ≡ m + 1
count_each supply same rest left x n m (many, kept) first (fewer, kept') = omega (arith, many, ap length kept, ap length first, fewer)

count_none : {A : Type 0} (supply same rest : List A) (n : ℕ) → Counts supply n same → HandsOver same None rest → n ≡ 0
count_none supply same rest n (many, kept) (none, empty) = omega (arith, many, ap length kept, ap length none)

pub hand_overs_are_counted : (A : Type 0) → HandOversAreCounted A
hand_overs_are_counted A = record { each = count_each; none = count_none }

-- ---- a take

place_filled : (e e' : Receiver) (supply rest : List Arrival) (x : Option Taken) (place : Arrival) → Takes e supply x e' rest
    → HandedOver supply place (is_some x) rest (place_after x place)
place_filled e e' supply rest (Some x) place t = t.first
place_filled e e' supply rest None place (none, kept) = (none, refl)

place_taken : (e e' : Receiver) (supply rest : List Arrival) (x : Taken) (place after : Arrival) → HandedOver supply place true rest after
    → x.arrival ≡ after → Receives e x e' → Takes e supply (Some x) e' rest × (place_after (Some x) place ≡ after)
place_taken e e' supply rest x place after first is received =
    (record { first = first ∙ ap (λ a. a ∷ rest) (sym is); received = received }, is)

pub each_take_fills_the_place : EachTakeFillsThePlace
each_take_fills_the_place = record { filled = place_filled; taken = place_taken }
