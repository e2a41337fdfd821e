-- The arrivals of a reel.
use Rattle.std.specs.Prelude.{◌≡◌, ◌≤◌, ℕ, true, List, drop, length, map, Ok, Err, Some, None, Option, Result}
use Rattle.std.specs.List.{range_with_len}
use Rattle.service.specs.Refusals.{Answer}
use Rattle.reel.specs.Layout.{count, category_at, packet_of}
use Rattle.reel.specs.Tests.{fault}
use Rattle.rules.specs.Arrivals.{Arrival, are_bytes, are_lawful}

-- what record k of these bytes is as an arrival, from 0
abbrev pub arrival_at : List ℕ → ℕ → Arrival
arrival_at bytes k = record { category = category_at bytes k; bytes = packet_of bytes k }

-- the arrivals that the records are, in the order of the records
unfoldable pub recorded : List ℕ → List Arrival
recorded bytes = map (arrival_at bytes) (range_with_len 0 (count bytes))

abbrev pub recorded_unless : Option Answer → List ℕ → Result (List Arrival) Answer
recorded_unless None bytes = Ok (recorded bytes)
recorded_unless (Some cause) bytes = Err cause

-- the arrivals of a reel of these bytes, or what its first test that fails is answered with
abbrev pub arrivals_of : List ℕ → Result (List Arrival) Answer
arrivals_of bytes = recorded_unless (fault bytes) bytes

-- those that are left when so many were taken
abbrev pub recorded_from : ℕ → List ℕ → List Arrival
recorded_from taken bytes = drop taken (recorded bytes)

-- the arrivals of a reel are lawful, and at most 2,048
pub record LawfulAndFew (list : List Arrival) : Type 0 where
  pub lawful : are_lawful list ≡ true
  pub few : length list ≤ 2048

abbrev pub ArrivalsOfReels : Type 0
ArrivalsOfReels =
    (bytes : List ℕ) (list : List Arrival) → are_bytes bytes ≡ true → arrivals_of bytes ≡ Ok list → LawfulAndFew list
