use Rattle.std.proofs.Common.{◌≡◌, length}
use Rattle.packet.proofs.Fields.{Narrowed}
use Rattle.packet.proofs.lists.narrowed.Given as goal

-- the codes so far are taken
abbrev pub invariant-loop-i : goal.invariant-loop-i
invariant-loop-i l = record { size : length l.codes ≡ 35; so : Narrowed l.list l.i l.codes }
