-- An input that is longer than the longest reel is answered alike, whatever stands behind its first 65,537 bytes.
use Rattle.std.proofs.Common.{◌≡◌, ℕ, ◌<◌, true, ◌||◌, List, length, take, inl, inr, ap, ◌∙◌, refl, arith}
use Rattle.std.specs.Prelude.{nat_lt}
use Rattle.std.proofs.lemmas.Bool.{cases_lt}
use Rattle.std.proofs.lemmas.Bool.Decides.{nat_tests}
use Rattle.std.proofs.lemmas.List.{take_all, length-take-le}
use Rattle.program.specs.Input.{first_bytes}
use Rattle.reel_text.specs.Text.{reel_text}

fails_first : (bs : List ℕ) → 65536 < length bs → (nat_lt (length bs) 16 || nat_lt 65536 (length bs)) ≡ true
fails_first bs h = grind (arith, nat_tests)

too_long : (a b : List ℕ) → 65536 < length a → 65536 < length b → reel_text a ≡ reel_text b
too_long a b g h = rw (fails_first a g, fails_first b h) refl

pub same_text : (all bytes : List ℕ) → bytes ≡ first_bytes 65537 all → reel_text bytes ≡ reel_text all
unfolding first_bytes
same_text all bytes e =
    elim (cases_lt 65536 (length all)) [
      | inl long ↦
          let cut : length (take 65537 all) ≡ 65537 = length-take-le 65537 all (omega arith) in
          let still : 65536 < length bytes = rw e (omega arith) in
          too_long bytes all still long
      | inr short ↦ ap reel_text (e ∙ take_all 65537 all (omega arith))
    ]
