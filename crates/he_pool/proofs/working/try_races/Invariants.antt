use Rattle.he_board.specs.Passes.{IsPassOf, notes}
use Rattle.he_pool.specs.Working.{HasTried}
use Rattle.he_pool.proofs.working.try_races.Given as goal

abbrev pub invariant-loop-number : goal.invariant-loop-number
invariant-loop-number g l = IsPassOf l.batch.board.now l.pass × HasTried l.batch.timelines.now l.from l.number (notes l.fn.pass) (notes l.pass) l.work.done.items l.work.plans.items
