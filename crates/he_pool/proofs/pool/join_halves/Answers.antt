use Rattle.he_board.specs.Passes.{notes}
use Rattle.he_pool.proofs.Joining.{real_joined}
use Rattle.he_pool.proofs.pool.join_halves.Goals as goal

pub returns-clause-real : goal.returns-clause-real
returns-clause-real g c = λ races left right. real_joined races (notes c.args.left.0) (notes c.args.right.0) (notes c.rejoin-pass.result) c.rejoin-pass.ensures.noted left right

pub returns-clause-worked : goal.returns-clause-worked
returns-clause-worked g c = λ races left right. c.join_work.ensures races (notes c.args.left.0) (notes c.args.right.0) (notes c.rejoin-pass.result) c.rejoin-pass.ensures.noted left right
