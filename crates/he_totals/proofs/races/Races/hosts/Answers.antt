use Rattle.std.proofs.Common.{◌≡◌, IfOk, map, string_bytes, subst}
use Rattle.he_totals.specs.Summed.{Sums}
use Rattle.he_totals.proofs.races.Races.hosts.Goals as goal

pub returns : goal.returns
returns g c = subst (λ (s : Sums). IfOk c.names.result (λ names. map string_bytes names.items ≡ s.hosts.names)) c.self.view_is c.names.ensures
