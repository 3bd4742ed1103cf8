use Rattle.he_resolver.proofs.Faithful.{part_settled}
use Rattle.he_resolver.proofs.resolver.Resolver.settle.Goals as goal

pub returns-clause-faithful : goal.returns-clause-faithful
returns-clause-faithful g c = λ before. (
  part_settled _ _ c.args.self.now.v6 c.settle.new.self _ c.settle.ensures before.0,
  part_settled _ _ c.args.self.now.v4 c.settle-2.new.self _ c.settle-2.ensures before.1,
)
