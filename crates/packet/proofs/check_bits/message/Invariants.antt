use Rattle.std.proofs.Common.{◌≡◌}
use Rattle.packet.proofs.Messages.{first_guarded}
use Rattle.packet.proofs.check_bits.message.Given as goal

-- the bits so far
abbrev pub invariant-loop-i : goal.invariant-loop-i
invariant-loop-i l = l.bits ≡ first_guarded l.list l.i
