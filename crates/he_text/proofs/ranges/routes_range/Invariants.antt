use Rattle.he_text.specs.InRange.{RouteInRange}
use Rattle.he_text.proofs.ranges.routes_range.Given as goal
use Rattle.std.specs.List.{AllWithin}

abbrev pub invariant-loop-route : goal.invariant-loop-route
invariant-loop-route l = AllWithin RouteInRange l.routes 0 l.route-index
