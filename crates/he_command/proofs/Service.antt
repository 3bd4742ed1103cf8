-- The port of a service, by the file that was read.
use Rattle.std.proofs.Common.{◌≡◌, ℕ, List, inl, subst, sym}
use Rattle.std.specs.Borrow.{Bor}
use Rattle.he_options.specs.declared.port.Port.{Port}
use Rattle.he_options.specs.declared.port.Port.TheVariants.{Service}
use Rattle.he_names.specs.declared.ports.PortFault.{PortFault}
use Rattle.he_names.specs.declared.ports.PortFault.TheVariants.{Unknown}
use Rattle.he_names.specs.Ports.{IsNoPort, MeansPort}
use Rattle.he_tasks.specs.declared.reports.TheConstants.{USAGE}
use Rattle.he_command.specs.Connection.{HasPort, LacksPort}

pub has_port : (IsRead : List ℕ → Type 0) (port : Port) (name : Bor (List ℕ)) (services given text : List ℕ) (number : ℕ)
    → port ≡ Service name → given ≡ services → text ≡ name.now → IsRead services → MeansPort given text number
    → HasPort IsRead port number
has_port IsRead port name services given text number is same named read means =
    subst (λ (p : Port). HasPort IsRead p number) (sym is)
    (services, read, subst (λ (s : List ℕ). MeansPort s name.now number) same (subst (λ (t : List ℕ). MeansPort given t number) named means))

pub lacks_port : (IsRead : List ℕ → Type 0) (port : Port) (name : Bor (List ℕ)) (services given text : List ℕ) (fault : PortFault) (status : ℕ)
    → port ≡ Service name → given ≡ services → text ≡ name.now → fault ≡ Unknown → status ≡ USAGE → IsRead services
    → IsNoPort given text fault → LacksPort IsRead port status
lacks_port IsRead port name services given text fault status is same named unknown usage read lacks =
    subst (λ (p : Port). LacksPort IsRead p status) (sym is)
    (inl (
      usage,
      services,
      read,
      subst (λ (f : PortFault). IsNoPort services name.now f) unknown
          (subst (λ (s : List ℕ). IsNoPort s name.now fault) same (subst (λ (t : List ℕ). IsNoPort given t fault) named lacks)),
    ))
