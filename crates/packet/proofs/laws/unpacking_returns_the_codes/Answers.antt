use Rattle.packet.proofs.Trips.{unpacking_returns}
use Rattle.packet.proofs.laws.unpacking_returns_the_codes.Goals as goal

pub returns : goal.returns
returns c = unpacking_returns
