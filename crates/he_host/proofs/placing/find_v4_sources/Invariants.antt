use Rattle.std.proofs.Common.{◌≡◌, ◌++◌, drop, map}
use Rattle.he_host.specs.Placing.{found_own}
use Rattle.he_host.proofs.placing.find_v4_sources.Given as goal

-- what was found so far, and what the other addresses say, is all
abbrev pub invariant-loop-address : goal.invariant-loop-address
invariant-loop-address g l =
    l.found.items ++ map (found_own l.around.interfaces.now l.around.routes.now l.around.asked.now) (drop l.address-index l.addresses)
    ≡ map (found_own l.around.interfaces.now l.around.routes.now l.around.asked.now) l.addresses
