use Rattle.packet_layout.proofs.Laws.{at_each_rate}
use Rattle.packet_layout.proofs.each_code_bit_once.Goals as goal

pub returns : goal.returns
returns c = at_each_rate
