use Rattle.he_turns.specs.Attempt.{CanPoll}
use Rattle.he_race_tests.proofs.own.finish.Given as goal

abbrev pub invariant-loop-tick : goal.invariant-loop-tick
invariant-loop-tick g l = CanPoll g.C.Connector g.C.Run.Trial l.future
