-- A list of so many values, of which the first ones are made from their index, and all past these are one value.
use Rattle.std.proofs.Common.{◌≡◌, ℕ, ◌<◌, ◌≤◌, cond, nat_lt, List, length, map, get_or, ◌∙◌, arith}
use Rattle.std.specs.List.{range_with_len}
use Rattle.std.proofs.lemmas.Bool.{cond-false, cond-true, le-ltb, lt-ltb}
use Rattle.std.proofs.lemmas.List.FromFn.{get_or-map-range_with_len, length-map-range_with_len}

module _ {X : Type 0} (n s : ℕ) (front : ℕ → X) (past : X) where
  abbrev filled_at : ℕ → X
  filled_at i = cond (nat_lt i s) (front i) past

  pub filled : List X
  filled = map filled_at (range_with_len 0 n)

  pub filled_length : length filled ≡ n
  unfolding filled
  filled_length = length-map-range_with_len filled_at 0 n

  pub filled_front : (d : X) → s ≤ n → (i : ℕ) → i < s → get_or filled i d ≡ front i
  unfolding filled
  filled_front d most i h = get_or-map-range_with_len filled_at 0 n i i d (omega arith) (omega arith) ∙ cond-true (nat_lt i s) (front i) past (lt-ltb i s h)

  pub filled_past : (d : X) (i : ℕ) → s ≤ i → i < n → get_or filled i d ≡ past
  unfolding filled
  filled_past d i k h = get_or-map-range_with_len filled_at 0 n i i d h (omega arith) ∙ cond-false (nat_lt i s) (front i) past (le-ltb i s k)
