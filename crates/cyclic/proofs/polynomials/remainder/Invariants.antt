use Rattle.std.proofs.Common.{◌≡◌, ◌/◌, ◌^◌}
use Rattle.cyclic.specs.Polynomials.{rem}
use Rattle.cyclic.proofs.polynomials.remainder.Given as goal

-- r is the remainder of the coefficients from i up
abbrev pub invariant-loop-i : goal.invariant-loop-i
invariant-loop-i l = l.r.bits ≡ rem (l.polynomial / 2 ^ l.i)
