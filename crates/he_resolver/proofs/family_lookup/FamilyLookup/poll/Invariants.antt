use Rattle.futures.specs.Task.{Keeps}
use Rattle.he_resolver.specs.Asking.{EndsThrough, IsSame}
use Rattle.he_resolver.specs.Heard.{IsHeardOfOne}
use Rattle.he_resolver.proofs.family_lookup.FamilyLookup.poll.Given as goal

abbrev pub invariant-loop : goal.invariant-loop
invariant-loop g l =
    Keeps l.fn.cx l.cx × IsSame l.fn.self l.self × EndsThrough l.fn.setup.plan l.fn.self.told l.self
    × (IsHeardOfOne l.fn.setup.plan.names.items l.fn.self.family l.fn.self.told → IsHeardOfOne l.fn.setup.plan.names.items l.fn.self.family l.self.told)
