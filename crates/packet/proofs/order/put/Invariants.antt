use Rattle.std.proofs.Common.{◌≡◌, length}
use Rattle.packet.proofs.Fields.{Put}
use Rattle.packet.proofs.order.put.Given as goal

-- the codes so far are written
abbrev pub invariant-loop-i : goal.invariant-loop-i
invariant-loop-i l = record { size : length l.order ≡ 35; so : Put l.fn.order l.from l.codes l.i l.order }
