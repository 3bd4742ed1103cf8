use Rattle.std.proofs.Common.{rules}
use Rattle.he_resolver.proofs.Asking.{asked_all}
use Rattle.he_resolver.proofs.family_lookup.FamilyLookup.ask_next.Goals as goal

pub returns-then-is_empty-clause-asks : goal.returns-then-is_empty-clause-asks
returns-then-is_empty-clause-asks g c = asked_all c.args.setup.now.plan c.args.self.now _ _ c.tell.ensures.told c.failed.ensures (search rules) (search rules)
