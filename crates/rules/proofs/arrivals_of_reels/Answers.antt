use Rattle.rules.proofs.Reels.{arrivals_of_reels}
use Rattle.rules.proofs.arrivals_of_reels.Goals as goal

pub returns : goal.returns
returns c = arrivals_of_reels
