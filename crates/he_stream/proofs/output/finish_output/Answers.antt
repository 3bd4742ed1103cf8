use Rattle.std.proofs.Common.{arith, inr}
use Rattle.he_stream.proofs.output.finish_output.Goals as goal

pub returns-clause-told : goal.returns-clause-told
returns-clause-told g c = inr record {
  steps = c.loop-steps._steps;
  all = omega (arith, c.loop-steps-test.false, c.loop-steps.auto._steps-end);
  before = c.loop-steps.invariant.1;
}
