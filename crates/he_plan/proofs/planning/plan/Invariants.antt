use Rattle.he_plan.specs.Attempts.{last_of}
use Rattle.he_plan.specs.RaceState.{IsUnderway}
use Rattle.he_plan.proofs.Planned.{ticks_left}
use Rattle.he_plan.proofs.planning.plan.Given as goal

abbrev pub invariant-loop-tick : goal.invariant-loop-tick
invariant-loop-tick g l = IsUnderway l.timeline l.underway

abbrev pub decreases-loop-tick : goal.decreases-loop-tick
decreases-loop-tick g l = ticks_left (last_of l.underway.attempts)
