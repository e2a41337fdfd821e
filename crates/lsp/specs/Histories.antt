-- Histories of an end, the memories after them, and the unrounded values beside these.
use Rattle.std.specs.Prelude.{ℕ, ◌+◌, ◌^◌, List, [], ◌∷◌, ℤ, pos, ◌+ℤ◌, ◌*ℤ◌, slice_index}
use Rattle.service.specs.declared.rates.Rate.{Rate}
use Rattle.lsp.specs.Quantizers.{Within, value_of}
use Rattle.lsp.specs.States.{fresh, updated, decayed}

-- what happens to the memories of an end; a packet has a rate and ten codes, and a code that a shorter list lacks
-- counts as 0
pub data Event : Type 0 where
  packet : Rate → List ℕ → Event
  erasure : Event
  blank : Event
  restart : Event

-- the memories after a history, from m. In a history the newest event stands first.
abbrev pub after : List ℤ → List Event → List ℤ
after m [] = m
after m (packet rate codes ∷ past) = updated rate codes (after m past)
after m (erasure ∷ past) = decayed (after m past)
after m (blank ∷ past) = after m past
after m (restart ∷ past) = fresh

-- The unrounded value of the LSP at index i is U / 32^t, an exact fraction that no end stores. First t, then U:
abbrev pub exponent : List Event → ℕ
exponent [] = 0
exponent (packet rate codes ∷ past) = exponent past + 1
exponent (erasure ∷ past) = exponent past + 1
exponent (blank ∷ past) = exponent past
exponent (restart ∷ past) = 0

abbrev pub numerator : ℕ → List Event → ℤ
numerator i [] = pos 0
numerator i (packet rate codes ∷ past) =
    pos (32 ^ (exponent past + 1)) *ℤ value_of rate i (slice_index codes i) +ℤ pos 29 *ℤ numerator i past
numerator i (erasure ∷ past) = pos 29 *ℤ numerator i past
numerator i (blank ∷ past) = numerator i past
numerator i (restart ∷ past) = pos 0

-- the codes of every packet are within their rate
abbrev pub Lawful : List Event → Type 0
Lawful [] = Unit {0}
Lawful (packet rate codes ∷ past) = Within rate codes × Lawful past
Lawful (erasure ∷ past) = Lawful past
Lawful (blank ∷ past) = Lawful past
Lawful (restart ∷ past) = Lawful past

-- a history with its blanks left out
abbrev pub without_blanks : List Event → List Event
without_blanks [] = []
without_blanks (packet rate codes ∷ past) = packet rate codes ∷ without_blanks past
without_blanks (erasure ∷ past) = erasure ∷ without_blanks past
without_blanks (blank ∷ past) = without_blanks past
without_blanks (restart ∷ past) = restart ∷ without_blanks past
