use Rattle.std.proofs.Common.{◌≡◌, ◌++◌}
use Rattle.he_totals.specs.Hosts.{places_of}
use Rattle.he_totals.proofs.tried.Tried.places_at.Given as goal

abbrev pub invariant-loop-other : goal.invariant-loop-other
invariant-loop-other g l = l.places.items ++ places_of l.other-iterator l.ip ≡ places_of l.self l.ip
