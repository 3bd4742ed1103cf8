use Rattle.he_board.specs.Passes.{IsPassOf, notes}
use Rattle.he_pool.specs.Working.{IsTrying}
use Rattle.he_pool.proofs.working.try_race.Given as goal

abbrev pub invariant-loop-place : goal.invariant-loop-place
invariant-loop-place g l = IsPassOf l.batch.board.now l.pass × IsTrying l.batch.timelines.now l.number l.place (notes l.fn.pass) (notes l.pass) l.work.done.items l.work.plans.items l.made
