use Rattle.std.proofs.Common.{◌≡◌}
use Rattle.packet.proofs.Carried.{filled}
use Rattle.packet.proofs.packing.write.Given as goal

-- the bytes so far are written
abbrev pub invariant-loop-index : goal.invariant-loop-index
invariant-loop-index g l = l.out ≡ filled g.K.PacketKind.rate l.list l.fn.out l.index
