use Rattle.std.proofs.Common.{◌≡◌, None, drop}
use Rattle.he_host.specs.Placing.{connected_from}
use Rattle.he_host.proofs.placing.find_connected.Given as goal

-- the longest of all is the longest of the best so far and those to come
abbrev pub invariant-loop-found : goal.invariant-loop-found
invariant-loop-found l = connected_from l.ip l.best (drop l.found-index l.routes) ≡ connected_from l.ip None l.routes
