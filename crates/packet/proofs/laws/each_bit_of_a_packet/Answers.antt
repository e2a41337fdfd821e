use Rattle.packet.proofs.Packets.{each_bit}
use Rattle.packet.proofs.laws.each_bit_of_a_packet.Goals as goal

pub returns : goal.returns
returns c = each_bit
