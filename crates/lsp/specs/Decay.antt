-- The decay D of a memory (IS-96, A.1.4.3.2.7): the predictor of an LSP multiplies what it holds by 0.90625, which is
-- 29/32.
use Rattle.std.specs.Prelude.{ℕ, ◌*◌, ◌^◌, ◌≤◌, ℤ, pos, ◌+ℤ◌, ◌-ℤ◌, ◌*ℤ◌, ◌≤ℤ◌, ◌<ℤ◌, unsigned_abs}
use Rattle.std.specs.Int.{int_div_euclid}

-- no memory reaches this size
abbrev pub memory_limit : ℕ
memory_limit = 2 ^ 33

-- D(m): (29 × m + 16) / 32 rounded down, also if m is negative; int_div_euclid rounds down, since 32 is above 0. It is
-- opaque: a proof sees the rule behind the name only if it says so.
unfoldable pub decay : ℤ → ℤ
decay m = int_div_euclid (pos 29 *ℤ m +ℤ pos 16) (pos 32)

-- D(m) is within one half of 29 × m / 32
abbrev pub DecayLaw : Type 0
DecayLaw = (m : ℤ) → 2 * unsigned_abs (pos 32 *ℤ decay m -ℤ pos 29 *ℤ m) ≤ 32

-- D(m) is the greatest whole number that is not above (29 × m + 16) / 32
pub record RoundsDown (m : ℤ) : Type 0 where
  pub below : (pos 32 *ℤ decay m) ≤ℤ (pos 29 *ℤ m +ℤ pos 16)
  pub greatest : (pos 29 *ℤ m +ℤ pos 16) <ℤ (pos 32 *ℤ decay m +ℤ pos 32)
