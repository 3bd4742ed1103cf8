use Rattle.std.proofs.Common.{arith}
use Rattle.he_reading.proofs.PartLaws.{marks_on, marks_within}
use Rattle.he_reading.proofs.parts.marks_in.Goals as goal

pub overflow_add-found : goal.overflow_add-found
overflow_add-found c =
    omega (arith, marks_on c.args.mark c.loop-at.at c.loop-at.found c.marks_at_front-found.result c.args.text.now c.loop-at.invariant.0 c.marks_at_front-found.ensures c.loop-at.invariant.1, marks_within c.args.mark c.args.text.now)

pub loop-at-preserved : goal.loop-at-preserved
loop-at-preserved c = (
  omega arith,
  marks_on c.args.mark c.loop-at.at c.loop-at.found c.marks_at_front-found.result c.args.text.now c.loop-at.invariant.0 c.marks_at_front-found.ensures c.loop-at.invariant.1,
)
