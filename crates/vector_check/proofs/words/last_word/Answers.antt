use Rattle.vector_check.proofs.WordLemmas.{last_found}
use Rattle.vector_check.proofs.words.last_word.Goals as goal

pub returns : goal.returns
returns c = last_found c.args.text.now c.rsplit_once.result c.rsplit_once.ensures.cases
