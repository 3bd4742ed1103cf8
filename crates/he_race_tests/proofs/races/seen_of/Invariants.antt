use Rattle.std.proofs.Common.{IfSome}
use Rattle.he_turns.specs.Winner.{MayPoll}
use Rattle.he_race_tests.proofs.races.seen_of.Given as goal

abbrev pub invariant-loop : goal.invariant-loop
invariant-loop g l = IfSome l.future.live (MayPoll g.C.Connector g.C.Run.Trial l.future.connector)
