-- Arrivals, what makes one, and the supply that hands them over.
use Rattle.std.specs.Prelude.{◌≡◌, ℕ, Bool, true, false, not, ◌&&◌, List, [], ◌∷◌, length, nat_lt, Some, None, Option}
use Rattle.std.specs.Prelude.{Ok, Err, Result}
use Rattle.service.specs.declared.categories.Category.{Category}
use Rattle.service.specs.declared.categories.Category.TheVariants.{Blank}
use Rattle.service.specs.declared.refusals.Fault.{Fault}
use Rattle.service.specs.declared.refusals.Fault.TheVariants.{UnknownCategory, Length, SpareBits}
use Rattle.service.specs.Categories.{category_of}
use Rattle.service.specs.Tests.{unknown_category, wrong_length, spare_bits_set}

-- what arrives: a category and its bytes
pub record Arrival : Type 0 where
  pub category : Category
  pub bytes : List ℕ

-- a blank, which has no bytes
abbrev pub blank_arrival : Arrival
blank_arrival = record { category = Blank; bytes = [] }

-- each of these numbers is one of a byte
unfoldable pub are_bytes : List ℕ → Bool
are_bytes [] = true
are_bytes (b ∷ bs) = nat_lt b 256 && are_bytes bs

-- an arrival is lawful if it passes the tests of its category's length and spare bits, and its bytes are bytes
abbrev pub is_lawful : Arrival → Bool
is_lawful a =
    not (wrong_length a.category (length a.bytes)) && not (spare_bits_set a.category a.bytes) && are_bytes a.bytes

-- each arrival of a list is lawful
unfoldable pub are_lawful : List Arrival → Bool
are_lawful [] = true
are_lawful (a ∷ list) = is_lawful a && are_lawful list

-- ---- an arrival is made

-- what the packet of a category is faulted for, at the place that the caller names; the length is tested before the
-- spare bits (refusals 6 and 9)
abbrev pub PacketFault : ℕ → Category → List ℕ → Fault → Type 0
PacketFault place c bytes (Length i) = (i ≡ place) × (wrong_length c (length bytes) ≡ true)
PacketFault place c bytes (SpareBits i) =
    (i ≡ place) × (wrong_length c (length bytes) ≡ false) × (spare_bits_set c bytes ≡ true)
PacketFault place c bytes _ = ⊥

-- what a category and bytes make: the lawful arrival, or a fault. What is made is shown plain by a map of the caller's.
abbrev pub MakesPacket : {A : Type 0} → (A → Arrival) → ℕ → Category → List ℕ → Result A Fault → Type 0
MakesPacket plain place c bytes (Ok a) =
    (plain a ≡ record { category = c; bytes = bytes }) × (is_lawful (plain a) ≡ true)
MakesPacket plain place c bytes (Err fault) = PacketFault place c bytes fault

-- what the number of a category and bytes are faulted for; the tests are made in the order 5, 6, 9
abbrev pub ArrivalFault : ℕ → ℕ → List ℕ → Fault → Type 0
ArrivalFault place n bytes (UnknownCategory i) = (i ≡ place) × (unknown_category n ≡ true)
ArrivalFault place n bytes fault = (unknown_category n ≡ false) × PacketFault place (category_of n) bytes fault

-- what they make
abbrev pub MakesArrival : {A : Type 0} → (A → Arrival) → ℕ → ℕ → List ℕ → Result A Fault → Type 0
MakesArrival plain place n bytes (Ok a) =
    (unknown_category n ≡ false) × MakesPacket plain place (category_of n) bytes (Ok a)
MakesArrival plain place n bytes (Err fault) = ArrivalFault place n bytes fault

-- ---- supplies

-- A supply is the list of what is still to come, the first first, and three facts about it are all that is used. Told
-- to hand one over, it gives the first and leaves the others; of an empty list it gives none and leaves it as it is.
abbrev pub HandsOver : {A : Type 0} → List A → Option A → List A → Type 0
HandsOver supply (Some a) rest = supply ≡ a ∷ rest
HandsOver supply None rest = (supply ≡ []) × (rest ≡ [])

-- the same where it is handed over into a place that the caller lends: whether one was, with the list and the place
-- before and after; at none the place is as it was
abbrev pub HandedOver : {A : Type 0} → List A → A → Bool → List A → A → Type 0
HandedOver supply place true rest place' = HandsOver supply (Some place') rest
HandedOver supply place false rest place' = HandsOver supply None rest × (place' ≡ place)

-- asked for its count, it answers the length of the list and leaves it as it is
abbrev pub Counts : {A : Type 0} → List A → ℕ → List A → Type 0
Counts supply n rest = (n ≡ length supply) × (rest ≡ supply)
