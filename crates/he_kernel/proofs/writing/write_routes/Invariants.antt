use Rattle.std.proofs.Common.{◌≡◌, ◌++◌, drop}
use Rattle.he_kernel.specs.Written.{written_routes}
use Rattle.he_kernel.proofs.writing.write_routes.Given as goal

abbrev pub invariant-loop-route : goal.invariant-loop-route
invariant-loop-route g l = l.out.items ++ written_routes (drop l.route-index l.routes) ≡ l.fn.out.items ++ written_routes l.routes
