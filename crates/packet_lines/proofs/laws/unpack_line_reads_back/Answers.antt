use Rattle.std.proofs.Common.{arith}
use Rattle.packet_lines.proofs.Lines.{unpack_line}
use Rattle.packet_lines.proofs.laws.unpack_line_reads_back.Goals as goal

pub returns : goal.returns
returns c = unpack_line c.args.rate c.args.packet.now (omega arith) (λ i. let f = c.type_inv.packet i in omega arith)
