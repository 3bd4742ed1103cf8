use Rattle.he_board.specs.Passes.{IsPassOf}
use Rattle.he_replay_tests.proofs.batches.first_free.Given as goal

abbrev pub invariant-loop-job : goal.invariant-loop-job
invariant-loop-job g l = IsPassOf l.board l.pass
