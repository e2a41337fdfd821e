-- Queues: how many entries one has places for, and what is said of those that wait.
use Rattle.std.specs.Prelude.{◌<◌, ◌≤◌, ℕ, List, drop, length, min}

-- a queue has at most 256 places
abbrev pub max_places : ℕ
max_places = 256

-- the places of a queue in a memory of n places: the first 256 of them, if there are more
abbrev pub places_in : ℕ → ℕ
places_in n = min n max_places

-- the part of a memory that lies behind these places
abbrev pub unused : {A : Type 0} → List A → List A
unused memory = drop max_places memory

-- of so many places, a place is free beside those of the entries that wait
abbrev pub HasRoom : {A : Type 0} → ℕ → List A → Type 0
HasRoom places waiting = length waiting < places

-- none is free
abbrev pub IsFull : {A : Type 0} → ℕ → List A → Type 0
IsFull places waiting = places ≤ length waiting

-- an entry of this number waits; the oldest, which is the first of the list, has the number 1
abbrev pub Waits : {A : Type 0} → List A → ℕ → Type 0
Waits waiting n = (1 ≤ n) × (n ≤ length waiting)
