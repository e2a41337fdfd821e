use Rattle.packet.specs.Reading.{ReadsTo}
use Rattle.packet.proofs.packing.read.Given as goal

-- the places so far are read
abbrev pub invariant-loop-place : goal.invariant-loop-place
invariant-loop-place g l = ReadsTo g.K.PacketKind.rate l.place l.packet l.list
