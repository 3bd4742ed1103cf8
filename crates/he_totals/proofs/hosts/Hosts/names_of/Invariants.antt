use Rattle.std.proofs.Common.{◌≡◌, ◌++◌, drop, map}
use Rattle.he_totals.specs.Hosts.{text_at}
use Rattle.he_totals.proofs.hosts.Hosts.names_of.Given as goal

abbrev pub invariant-loop-place : goal.invariant-loop-place
invariant-loop-place g l =
    map (λ name. name.now) l.names.items ++ map (text_at l.self.names) (drop l.place-index l.places) ≡ map (text_at l.self.names) l.places
