use Rattle.he_plan.specs.Attempts.{last_of}
use Rattle.he_plan.specs.Finish.{IsWinner}
use Rattle.he_plan.specs.RaceState.{IsUnderway}
use Rattle.he_plan.proofs.Planned.{ticks_left}
use Rattle.he_plan.proofs.planning.run_to_stop.Given as goal

abbrev pub invariant-loop-tick : goal.invariant-loop-tick
invariant-loop-tick g l = record {
  kept : IsUnderway l.timeline l.underway;
  wins : IsWinner l.underway.fates l.winner;
}

abbrev pub decreases-loop-tick : goal.decreases-loop-tick
decreases-loop-tick g l = ticks_left (last_of l.underway.attempts)
