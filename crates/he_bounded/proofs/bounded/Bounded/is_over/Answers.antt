use Rattle.std.proofs.Common.{rules}
use Rattle.he_bounded.proofs.Within.{ends_whole, stays_within}
use Rattle.he_bounded.proofs.bounded.Bounded.is_over.Goals as goal

pub returns-clause-within : goal.returns-clause-within
returns-clause-within g c = stays_within c.args.self.now.body

pub returns-clause-whole : goal.returns-clause-whole
returns-clause-whole g c = ends_whole c.args.self.now.body c.eq.result (λ holds. search rules)
