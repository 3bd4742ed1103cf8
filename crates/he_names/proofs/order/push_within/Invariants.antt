use Rattle.std.proofs.Common.{◌≡◌, ◌++◌, map, take}
use Rattle.he_names.specs.Fields.{texts}
use Rattle.he_names.specs.Order.{within}
use Rattle.he_names.proofs.order.push_within.Given as goal

abbrev pub invariant-loop-domain : goal.invariant-loop-domain
invariant-loop-domain g l = map (λ name. name.items) l.names.items
    ≡ map (λ name. name.items) l.fn.names.items ++ map (within l.host) (texts (take l.domain-index l.search))
