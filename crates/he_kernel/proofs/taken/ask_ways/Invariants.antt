use Rattle.std.proofs.Common.{◌≡◌, ◌++◌, drop, map}
use Rattle.he_kernel.proofs.taken.ask_ways.Given as goal

-- the destinations of the ways so far, and the other destinations, are all
abbrev pub invariant-loop-to : goal.invariant-loop-to
invariant-loop-to g l = map (λ way. way.to) l.ways.items ++ drop l.to-index l.destinations ≡ l.destinations
