use Rattle.std.proofs.Common.{◌≡◌, take}
use Rattle.he_turns.specs.Heard.{with_routes}
use Rattle.he_turns.proofs.lines.with_routes.Given as goal

abbrev pub invariant-loop-route : goal.invariant-loop-route
invariant-loop-route l = l.all.items ≡ with_routes l.family l.has (take l.route-index l.told)
