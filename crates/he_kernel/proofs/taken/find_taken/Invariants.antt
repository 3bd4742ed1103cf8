use Rattle.std.proofs.Common.{◌≡◌, [], drop, map}
use Rattle.he_kernel.specs.Ways.{ip_of, sources_after}
use Rattle.he_kernel.proofs.taken.find_taken.Given as goal

-- the sources found so far, and those of the other ways, are all
abbrev pub invariant-loop-way : goal.invariant-loop-way
invariant-loop-way g l = sources_after (map ip_of l.taken.items) (drop l.way-index l.ways) ≡ sources_after [] l.ways
