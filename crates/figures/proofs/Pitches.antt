-- The law of the pitch pair.
use Rattle.std.proofs.Common.{◌≡◌, ℕ, true, arith}
use Rattle.std.proofs.lemmas.Bool.Decides.{nat_tests}
use Rattle.figures.specs.Pitch.{pitch_allowed, pitch_codes, pitch_of}
use Rattle.figures.specs.Laws.{PitchCodesFit, PitchDecoded, PitchEncoded, PitchRoundTrips}

pub decoded : (pair : ℕ × ℕ) → pitch_allowed pair ≡ true → PitchDecoded pair
unfolding pitch_allowed pitch_codes pitch_of
decoded (lag, gain) h =
    let fit : PitchCodesFit (pitch_codes (lag, gain)).0 (pitch_codes (lag, gain)).1 =
    record { plag_bits = grind (arith, nat_tests); pgain_bits = grind (arith, nat_tests) } in
    record { fit = fit; same = grind (arith, nat_tests) }

encoded : (plag pgain : ℕ) → PitchCodesFit plag pgain → PitchEncoded plag pgain
unfolding pitch_allowed pitch_codes pitch_of
encoded plag pgain fit =
    let p = fit.plag_bits in
    let q = fit.pgain_bits in
    record { allowed = grind (arith, nat_tests); same = grind (arith, nat_tests) }

pub round_trips : PitchRoundTrips
round_trips = record { decoded = decoded; encoded = encoded }
