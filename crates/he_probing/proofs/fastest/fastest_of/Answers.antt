use Rattle.std.proofs.lemmas.List.{take_more}
use Rattle.he_probing.proofs.Quickest.{next}
use Rattle.he_probing.proofs.fastest.fastest_of.Goals as goal

pub loop-row-preserved : goal.loop-row-preserved
loop-row-preserved c = record {
  fastest =
      next c.args.course.now c.args.rows.now c.loop-row.row-index _ c.loop-row.fastest c.faster_of-fastest.result c.takes_of.result
      (take_more c.args.rows.now c.loop-row.row-index _ c.loop-row-test.true) c.takes_of.ensures c.faster_of-fastest.ensures
      c.loop-row.invariant.fastest;
}
