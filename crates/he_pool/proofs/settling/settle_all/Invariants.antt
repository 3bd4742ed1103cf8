use Rattle.he_board.specs.Passes.{IsPassOf, notes}
use Rattle.he_pool.specs.Working.{ArePlans, AreSettled, IsKept}
use Rattle.he_pool.proofs.settling.settle_all.Given as goal

abbrev pub invariant-loop-number : goal.invariant-loop-number
invariant-loop-number g l = IsPassOf l.batch.board.now l.pass × IsKept (notes l.fn.pass) (notes l.pass) × ArePlans l.batch.timelines.now l.plans.items × AreSettled l.batch.timelines.now l.number (notes l.pass) l.transcripts.items
