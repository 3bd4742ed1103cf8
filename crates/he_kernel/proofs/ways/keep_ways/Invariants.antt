use Rattle.std.proofs.Common.{◌≡◌, [], drop, map}
use Rattle.he_kernel.specs.Keeping.{routes_kept}
use Rattle.he_kernel.specs.Ways.{way_route}
use Rattle.he_kernel.proofs.ways.keep_ways.Given as goal

-- what is kept so far, and what comes of the other ways, is all
abbrev pub invariant-loop-way : goal.invariant-loop-way
invariant-loop-way g l =
    routes_kept l.kept.items (map (way_route l.own) (drop l.way-index l.ways)) ≡ routes_kept [] (map (way_route l.own) l.ways)
