-- By hand, since the check does not find what the first power that passes says of those before it.
use Rattle.std.proofs.Common.{◌≡◌, ◌^◌, ◌<◌, ◌≢◌, arith, rules, tests}
use Rattle.std.proofs.lemmas.Iterator.{first_from_Range}
use Rattle.cyclic.specs.Polynomials.{rem}
use Rattle.cyclic.specs.declared.places.TheConstants.{CODE_LENGTH}
use Rattle.cyclic.proofs.places.power_of.Goals as goal

pub returns : goal.returns
returns c =
    let s = c.args.syndrome.bits in
    let found =
    first_from_Range _ _ _ _ (λ p. p < CODE_LENGTH → rem (2 ^ p) ≡ s) (λ p. p < CODE_LENGTH → rem (2 ^ p) ≢ s) c.find.ensures.ran
    (λ x q k l. grind (arith, tests))
    (λ x q k. (search rules, λ l. grind (arith, tests))) in
    search rules
