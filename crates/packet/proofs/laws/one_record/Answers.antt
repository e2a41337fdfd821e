use Rattle.packet.proofs.Returns.{one_record}
use Rattle.packet.proofs.laws.one_record.Goals as goal

pub returns : goal.returns
returns c = one_record
