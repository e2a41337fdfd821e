use Rattle.std.proofs.Common.{◌≡◌}
use Rattle.packet.proofs.Fields.{listed}
use Rattle.packet.proofs.lists.to_list.Given as goal

-- the codes so far are written
abbrev pub invariant-loop-i : goal.invariant-loop-i
invariant-loop-i l = l.list ≡ listed l.code-items l.pcb l.i
