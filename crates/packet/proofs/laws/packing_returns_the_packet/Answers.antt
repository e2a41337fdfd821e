use Rattle.packet.proofs.Trips.{packing_returns}
use Rattle.packet.proofs.laws.packing_returns_the_packet.Goals as goal

pub returns : goal.returns
returns c = packing_returns
