use Rattle.std.proofs.Common.{◌≡◌, ◌++◌, take}
use Rattle.std.specs.List.{flat_map}
use Rattle.he_write.specs.Written.{host_route_text}
use Rattle.he_write.proofs.timelines.write_routes.Given as goal

abbrev pub invariant-loop-route : goal.invariant-loop-route
invariant-loop-route g l = l.out.items ≡ l.fn.out.items ++ flat_map host_route_text (take l.route-index l.routes)
