use Rattle.std.specs.Prelude.{◌≡◌}
use Rattle.futures.specs.Task.{Keeps}
use Rattle.he_resolver.specs.Heard.{IsFaithful, names_of}
use Rattle.he_resolver.specs.Needs.{is_settled}
use Rattle.he_resolver.proofs.resolver.Resolver.poll_names.Given as goal

abbrev pub invariant-loop : goal.invariant-loop
invariant-loop g l =
    Keeps l.fn.cx l.cx × ((family : _) → is_settled l.self family ≡ is_settled l.fn.self family)
    × (IsFaithful l.fn.self → IsFaithful l.self) × (names_of l.self ≡ names_of l.fn.self)
