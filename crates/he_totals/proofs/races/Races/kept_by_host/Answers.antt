use Rattle.std.proofs.Common.{◌≡◌, IfOk, subst}
use Rattle.he_totals.specs.Hosts.{at_hosts}
use Rattle.he_totals.specs.Summed.{Sums}
use Rattle.he_totals.proofs.races.Races.kept_by_host.Goals as goal

pub returns : goal.returns
returns g c =
    subst (λ (s : Sums). IfOk c.places_of.result (λ placed. placed.items ≡ at_hosts s.hosts.places s.kept)) c.self.view_is
    (rw c.as_slice.ensures.value at c.places_of.ensures)
