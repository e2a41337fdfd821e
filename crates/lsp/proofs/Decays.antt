-- What the decay does, and that a memory stays in range. Only rounds_down, and the proof of the function that computes it,
-- look into the definition of the decay. The range here, and the laws over histories, rest on decay_law.
use Rattle.std.proofs.Common.{◌≡◌, ℕ, ◌<◌, ◌≤◌, ℤ, pos, negsuc, ◌+ℤ◌, ◌*ℤ◌, nat_abs, ◌≤ℤ◌, ◌<ℤ◌, arith}
use Rattle.std.specs.Int.{int_div_euclid}
use Rattle.std.proofs.lemmas.Int.{ints}
use Rattle.lsp.specs.Decay.{memory_limit, decay, DecayLaw, RoundsDown}
use Rattle.lsp.specs.Quantizers.{largest_value}
use Rattle.lsp.specs.States.{bound}

-- the quotient rounded down
pub floored : (z : ℤ) (d : ℕ) → 0 < d → ((pos d *ℤ int_div_euclid z (pos d)) ≤ℤ z) × (z <ℤ (pos d *ℤ int_div_euclid z (pos d) +ℤ pos d))
floored (pos a) d h = omega (arith, ints)
floored (negsuc a) d h = omega (arith, ints)

pub rounds_down : (m : ℤ) → RoundsDown m
unfolding decay
rounds_down m =
    let f = floored (pos 29 *ℤ m +ℤ pos 16) 32 (omega arith) in
    record { below = f.0; greatest = f.1 }

-- its two parts, in the form that the check can apply
pub rounds_below : (m : ℤ) → (pos 32 *ℤ decay m) ≤ℤ (pos 29 *ℤ m +ℤ pos 16)
rounds_below m = (rounds_down m).below

pub rounds_greatest : (m : ℤ) → (pos 29 *ℤ m +ℤ pos 16) <ℤ (pos 32 *ℤ decay m +ℤ pos 32)
rounds_greatest m = (rounds_down m).greatest

pub decay_law : DecayLaw
decay_law m =
    let l = rounds_below m in
    let g = rounds_greatest m in
    omega (arith, ints)

-- ---- the range

-- the decay of a memory is small enough to be a memory
pub decay_small : (m d : ℤ) → d ≡ decay m → nat_abs m < memory_limit → nat_abs d < memory_limit
decay_small m d e h = omega (arith, ints, e, decay_law m)

pub bound_most : (i : ℕ) → bound i ≤ memory_limit
unfolding bound
bound_most i = omega arith

pub zero_in : (i : ℕ) → nat_abs (pos 0) < bound i
unfolding bound
zero_in i = omega arith

pub decay_in : (i : ℕ) (m : ℤ) → nat_abs m < bound i → nat_abs (decay m) < bound i
unfolding bound
decay_in i m h = omega (arith, ints, decay_law m)

pub update_in : (i : ℕ) (v m : ℤ) → nat_abs v ≤ largest_value → nat_abs m < bound i → nat_abs (v +ℤ decay m) < bound i
unfolding bound
update_in i v m k h = omega (arith, ints, decay_law m)
