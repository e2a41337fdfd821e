use Rattle.std.proofs.Common.{◌+◌, ◌∙◌, arith}
use Rattle.std.proofs.lemmas.List.{length-set}
use Rattle.packet.proofs.Fields.{put_more}
use Rattle.packet.proofs.order.put.Goals as goal

pub loop-i-preserved : goal.loop-i-preserved
loop-i-preserved c =
    let l = c.loop-i in
    record {
      size = length-set l.order (c.args.from + l.i) _ ∙ l.invariant.size;
      so = put_more c.args.order.now c.args.from c.args.codes.now l.order l.i (omega (arith, l.invariant.size, c.requires, c.loop-i-test.true)) c.loop-i-test.true l.invariant.so;
    }
