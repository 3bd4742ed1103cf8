use Rattle.std.proofs.Common.{◌≡◌, ◌++◌, drop, map}
use Rattle.he_host.specs.Gathering.{route_read, routes_left}
use Rattle.he_kernel.specs.Keeping.{routes_kept}
use Rattle.he_host.proofs.gathering.keep_routes.Given as goal

-- what is kept and left out so far, and what comes of the other lines, is all
abbrev pub invariant-loop-line : goal.invariant-loop-line
invariant-loop-line g l = record {
  kept : routes_kept l.kept.items (map route_read (drop l.line-index l.found)) ≡ routes_kept l.fn.kept.items (map route_read l.found);
  told : l.left_out.items ++ routes_left l.kept.items (drop l.line-index l.found) ≡ l.fn.left_out.items ++ routes_left l.fn.kept.items l.found;
}
