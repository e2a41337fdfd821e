use Rattle.std.proofs.Common.{◌≡◌}
use Rattle.packet.proofs.Carried.{first_bits}
use Rattle.packet.proofs.packing.packed_byte.Given as goal

-- the bits so far
abbrev pub invariant-loop-t : goal.invariant-loop-t
invariant-loop-t g l = l.byte ≡ first_bits g.K.PacketKind.rate l.list l.index l.t
