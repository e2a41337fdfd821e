-- By hand: named on the function, neither the lemma nor its two parts, `remainder` and `only`, were found to serve.
use Rattle.cyclic.proofs.Linear.{unique_remainder}
use Rattle.cyclic.proofs.laws.unique_remainder.Goals as goal

pub returns : goal.returns
returns c = unique_remainder
