use Rattle.law.proofs.Delivers.{own_line_delivers}
use Rattle.law.proofs.own_line_delivers.Goals as goal

pub returns : goal.returns
returns c = own_line_delivers
