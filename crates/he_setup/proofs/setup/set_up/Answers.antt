use Rattle.std.proofs.Common.{subst, sym}
use Rattle.he_settings.specs.Known.{FindsKnown, items_of}
use Rattle.he_setup.specs.declared.request.ConnectRequest.{ConnectRequest}
use Rattle.he_setup.proofs.setup.set_up.Goals as goal

pub returns-clause-known : goal.returns-clause-known
returns-clause-known g c =
    subst (λ (r : ConnectRequest). FindsKnown r.host.now r.resolver (items_of c.in_ok-known.known))
    (sym c.with_families.ensures) c.in_ok-known.ensures.known
