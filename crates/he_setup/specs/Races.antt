-- A connection's race before its start.
use Rattle.std.specs.Prelude.{ℕ, ◌≡◌, ◌⊎◌, List, Option, Some, None}
use Rattle.he_addr.specs.declared.ip.Family.{Family}
use Rattle.he_addr.specs.declared.ip.Family.TheVariants as ips
use Rattle.he_timeline.specs.Race.{Race}
use Rattle.he_live.specs.declared.endpoint.Endpoint.{Endpoint}
use Rattle.he_settings.specs.Known.{FindsKnown, items_of}
use Rattle.he_settings.specs.Scopes.{FindsScope}
use Rattle.he_setup.specs.declared.request.ConnectRequest.{ConnectRequest}
use Rattle.he_setup.specs.declared.request.Families.{Families}
use Rattle.he_setup.specs.declared.request.Families.TheVariants as families
use Rattle.he_setup.specs.declared.setup.Setup.{Setup}
use Rattle.he_setup.specs.Start.{Starts}

-- the only family to try, if there is one
abbrev pub only_of : Families → Option Family
only_of families.Both = None
only_of (families.Only family) = Some family

-- only IPv6 is tried
abbrev pub only_six : Families
only_six = families.Only ips.V6

-- the families to try are the requested ones, or one of both: this machine may have no way for the other
abbrev pub Tries : Families → Families → Type 0
Tries wanted tried = (tried ≡ wanted) ⊎ (wanted ≡ families.Both)

-- the race starts with the requested settings, some lines and the families to try, and goes to the requested port,
-- over the interface in the host's text
pub record Begins (request : ConnectRequest) (tried : Families) (start : Race) (to : Endpoint) : Type 0 where
  pub tries : Tries request.families tried
  pub lines : List ℕ
  pub starts : Starts lines request.settings tried start
  pub port : to.port ≡ request.port
  pub scope : FindsScope request.host.now to.scope

-- the known addresses of the request's host
abbrev pub KnowsHost : Setup → Type 0
KnowsHost setup = FindsKnown setup.request.host.now setup.request.resolver (items_of setup.known)

-- a race is set up like this, for the request with the families to try
pub record IsSetUp (request : ConnectRequest) (setup : Setup) : Type 0 where
  pub tried : Families
  pub begins : Begins request tried setup.start setup.to
  pub same : setup.request ≡ record request { families = tried }
