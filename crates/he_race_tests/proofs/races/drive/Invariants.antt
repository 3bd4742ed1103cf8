use Rattle.he_race_tests.proofs.races.drive.Given as goal

abbrev pub invariant-loop : goal.invariant-loop
invariant-loop g l = g.F.Future.can_poll l.future
