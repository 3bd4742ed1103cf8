use Rattle.std.proofs.Common.{◌≡◌, ◌-◌, ◌≤◌, ◌++◌, drop, length}
use Rattle.he_plan.specs.Alternating.{alternate}
use Rattle.he_plan.proofs.interlacing.alternate.Given as goal

abbrev pub invariant-loop-i : goal.invariant-loop-i
invariant-loop-i g l = record {
  in_other : l.i ≤ length l.other;
  in_leading : l.i ≤ length l.leading;
  items : l.interlaced.items ++ alternate (drop l.i l.other) (drop l.i l.leading) ≡ l.initial.interlaced.items ++ alternate l.other l.leading;
}

abbrev pub decreases-loop-i : goal.decreases-loop-i
decreases-loop-i g l = length l.other - l.i
