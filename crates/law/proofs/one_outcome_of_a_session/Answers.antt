use Rattle.law.proofs.Sessions.{one_outcome}
use Rattle.law.proofs.one_outcome_of_a_session.Goals as goal

pub returns : goal.returns
returns c = one_outcome
