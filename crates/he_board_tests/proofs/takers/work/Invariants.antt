use Rattle.he_board.specs.Passes.{IsPassOf}
use Rattle.he_board_tests.proofs.takers.work.Given as goal

abbrev pub invariant-loop-job : goal.invariant-loop-job
invariant-loop-job l = IsPassOf l.board l.pass

abbrev pub invariant-loop-step : goal.invariant-loop-step
invariant-loop-step l = IsPassOf l.board l.pass
