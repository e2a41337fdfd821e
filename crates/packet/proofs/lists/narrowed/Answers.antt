use Rattle.std.proofs.Common.{◌∙◌, arith}
use Rattle.std.proofs.lemmas.List.{length-set}
use Rattle.packet.proofs.Fields.{narrowed_more}
use Rattle.packet.proofs.lists.narrowed.Goals as goal

pub loop-i-preserved : goal.loop-i-preserved
loop-i-preserved c =
    let l = c.loop-i in
    record {
      size = length-set l.codes l.i _ ∙ l.invariant.size;
      so = narrowed_more c.args.list.now l.codes l.i (omega (arith, l.invariant.size, c.loop-i-test.true)) (omega arith) l.invariant.so;
    }
