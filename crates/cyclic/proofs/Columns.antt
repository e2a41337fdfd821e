-- The remainders of the 28 powers of x, by a test that is computed of the table.
use Rattle.std.proofs.Common.{◌≡◌, ℕ, ◌^◌, ◌<◌, Bool, true, eqb, refl, slice_index}
use Rattle.std.proofs.lemmas.Bool.{eqb-true}
use Rattle.service.proofs.Computed.{all_below, all_at}
use Rattle.cyclic.specs.Polynomials.{rem, rem_in}
use Rattle.cyclic.specs.declared.places.TheConstants.{COLUMNS}

abbrev is_column : ℕ → Bool
is_column p = eqb (slice_index COLUMNS p) (rem (2 ^ p))

tested : all_below is_column 28 ≡ true
unfolding rem rem_in
tested = refl

pub column_is : (p : ℕ) → p < 28 → slice_index COLUMNS p ≡ rem (2 ^ p)
column_is p h = eqb-true (slice_index COLUMNS p) (rem (2 ^ p)) (all_at is_column 28 p tested h)
