-- The laws of the memories, over whole histories.
use Rattle.std.specs.Prelude.{◌≡◌, ℕ, ◌*◌, ◌^◌, ◌<◌, ◌≤◌, List, ◌++◌, length, ℤ, pos, ◌-ℤ◌, ◌*ℤ◌, slice_index_or}
use Rattle.std.specs.Prelude.{unsigned_abs}
use Rattle.service.specs.declared.rates.Rate.{Rate}
use Rattle.lsp.specs.Quantizers.{top_code, value_of, code_of}
use Rattle.lsp.specs.States.{InRange, fresh}
use Rattle.lsp.specs.Histories.{Event, after, exponent, numerator, Lawful, without_blanks}

-- the code of a code's value is that code
abbrev pub CodeOfValue : Type 0
CodeOfValue = (rate : Rate) (i c : ℕ) → i < 10 → c ≤ top_code rate → code_of rate i (value_of rate i c) ≡ c

-- no code of the rate has a value nearer to the offset than the offset's own code has
abbrev pub NearestCode : Type 0
NearestCode =
    (rate : Rate) (i : ℕ) → i < 10 → (w : ℤ) (c : ℕ) → c ≤ top_code rate
    → unsigned_abs (w -ℤ value_of rate i (code_of rate i w)) ≤ unsigned_abs (w -ℤ value_of rate i c)

-- no memory leaves its range, over a history whose codes are within their rates
abbrev pub StaysInRange : Type 0
StaysInRange = (m : List ℤ) → InRange m → (past : List Event) → Lawful past → InRange (after m past)

-- the memory m of the LSP at index i is within 16/3 grains of its unrounded value: 3 × |m × 32^t - U| ≤ 16 × 32^t
abbrev pub WithinRounding : ℕ → List Event → ℤ → Type 0
WithinRounding i past m = 3 * unsigned_abs (m *ℤ pos (32 ^ exponent past) -ℤ numerator i past) ≤ 16 * 32 ^ exponent past

-- every memory is within 16/3 grains of its unrounded value, after every history
abbrev pub Rounding : Type 0
Rounding = (past : List Event) (i : ℕ) → i < 10 → WithinRounding i past (slice_index_or (after fresh past) i (pos 0))

-- each memory of the one end is at most 10 grains from that of the other
abbrev pub Agree : List ℤ → List ℤ → Type 0
Agree m n = (i : ℕ) → i < 10 → unsigned_abs (slice_index_or m i (pos 0) -ℤ slice_index_or n i (pos 0)) ≤ 10

-- the same 256 events in the same order, with any blanks between them on either side
pub record Same256 (recent recent' : List Event) : Type 0 where
  pub same : without_blanks recent ≡ without_blanks recent'
  pub many : length (without_blanks recent) ≡ 256

-- any two lists of memories in range agree after the same 256 events, packets above all
abbrev pub Agreement : Type 0
Agreement =
    (m n : List ℤ) → InRange m → InRange n → (recent recent' : List Event) → Same256 recent recent'
    → Agree (after m recent) (after n recent')

-- the memories of two ends agree after the same 256 events, whatever lawful past each has
abbrev pub EndsAgree : Type 0
EndsAgree =
    (past past' recent recent' : List Event) → Lawful past → Lawful past' → Same256 recent recent'
    → Agree (after fresh (recent ++ past)) (after fresh (recent' ++ past'))
