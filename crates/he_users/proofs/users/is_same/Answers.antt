use Rattle.he_users.proofs.Same.{same_step}
use Rattle.he_users.proofs.users.is_same.Goals as goal

pub loop-at-preserved : goal.loop-at-preserved
loop-at-preserved c = same_step c.loop-at.is_same c.has_octet-is_same.result c.args.given.now c.args.own.now c.loop-at.at c.loop-at-test.true c.has_octet-is_same.ensures c.loop-at.invariant
