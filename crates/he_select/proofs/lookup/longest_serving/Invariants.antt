use Rattle.std.proofs.Common.{◌≡◌, drop, option_map}
use Rattle.std.specs.Prelude.{None}
use Rattle.he_select.specs.Attributes.{serves_number}
use Rattle.he_select.specs.Selection.{is_longer_route}
use Rattle.he_select.specs.Walking.{walk_fitting}
use Rattle.he_select.proofs.lookup.longest_serving.Given as goal

abbrev pub invariant-loop-route : goal.invariant-loop-route
invariant-loop-route l =
    walk_fitting (serves_number l.number l.is_v4) is_longer_route (option_map (λ kept. kept.now) l.best) (drop l.route-index l.routes)
    ≡ walk_fitting (serves_number l.number l.is_v4) is_longer_route None l.routes
