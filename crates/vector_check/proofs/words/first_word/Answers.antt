use Rattle.vector_check.proofs.WordLemmas.{first_found}
use Rattle.vector_check.proofs.words.first_word.Goals as goal

pub returns : goal.returns
returns c = first_found c.args.text.now c.split_once.result c.split_once.ensures.cases
