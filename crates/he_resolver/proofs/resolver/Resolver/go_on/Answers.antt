use Rattle.he_resolver.proofs.Faithful.{part_again}
use Rattle.he_resolver.proofs.resolver.Resolver.go_on.Goals as goal

pub returns-clause-faithful : goal.returns-clause-faithful
returns-clause-faithful g c = λ before. (
  part_again _ _ c.args.self.now.v6 c.start_again.new.self c.start_again.ensures.same c.start_again.ensures.told before.0,
  part_again _ _ c.args.self.now.v4 c.start_again-2.new.self c.start_again-2.ensures.same c.start_again-2.ensures.told before.1,
)
