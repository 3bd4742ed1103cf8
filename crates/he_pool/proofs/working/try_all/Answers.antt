use Rattle.std.proofs.Common.{rules}
use Rattle.he_board.specs.Passes.{notes}
use Rattle.he_pool.proofs.Trying.{held_none, tried_all}
use Rattle.he_pool.proofs.working.try_all.Goals as goal

pub try_races-requires-clause-held : goal.try_races-requires-clause-held
try_races-requires-clause-held g c = held_none c.args.batch.now.timelines.now (notes c.args.pass.now) c.in_ok-work.work.done.items c.in_ok-work.work.plans.items _ c.requires.fresh c.in_ok-work.ensures.done c.in_ok-work.ensures.plans (search rules)

pub returns-clause-worked : goal.returns-clause-worked
returns-clause-worked g c = tried_all c.args.batch.now.timelines.now c.args.first _ (notes c.try_races.new.pass) (notes c.try_races-2.new.pass) _ _ (search rules) c.in_ok-try_races.ensures.tried c.try_races-2.ensures.more c.in_ok-try_races-2.ensures.tried c.in_ok-try_races-2.ensures.held
