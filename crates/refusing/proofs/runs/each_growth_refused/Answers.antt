use Rattle.std.proofs.Common.{suc, arith}
use Rattle.refusing.proofs.runs.each_growth_refused.Goals as goal

pub returns-then-is_granted_all-clause-ran : goal.returns-then-is_granted_all-clause-ran
returns-then-is_granted_all-clause-ran g c = record {
  times = suc c.loop-refused.refused;
  last = c.run.new.self;
  more = omega arith;
  leads = (c.loop-refused.run, c.loop-refused.invariant.1, c.run.ensures);
}
