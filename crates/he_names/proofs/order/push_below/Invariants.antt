use Rattle.std.proofs.Common.{◌≡◌, ◌++◌, drop, filter, map, not}
use Rattle.he_names.specs.Fields.{texts}
use Rattle.he_names.specs.Order.{is_root, within}
use Rattle.he_names.proofs.order.push_below.Given as goal

-- the names so far and those in the domains from here are all
abbrev pub invariant-loop-domain : goal.invariant-loop-domain
invariant-loop-domain g l = map (λ name. name.items) l.names.items
    ++ map (within l.host) (filter (λ domain. not (is_root domain)) (texts (drop l.domain-index l.search)))
    ≡ map (λ name. name.items) l.fn.names.items
    ++ map (within l.host) (filter (λ domain. not (is_root domain)) (texts l.search))
