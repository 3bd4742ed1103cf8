-- The start of a host's look-up, and the cached answers of a host.
use Rattle.std.specs.Prelude.{◌≡◌, ◌⊎◌, ◌++◌, ℕ, List, Option, Some, None, option_map}
use Rattle.std.specs.Global.{Vec}
use Rattle.he_addr.specs.declared.ip.Family.{Family}
use Rattle.he_addr.specs.declared.ip.Ip.{Ip}
use Rattle.he_setup.specs.Races.{only_of}
use Rattle.he_setup.specs.declared.request.ConnectRequest.{ConnectRequest}
use Rattle.he_kept.specs.Answers.{IsOfHost, Serves, ips_in}
use Rattle.he_kept.specs.declared.answer.KeptAnswer.{KeptAnswer}
use Rattle.he_kept.specs.declared.answer.KeptHost.{KeptHost}
use Rattle.he_resolver.specs.Begins.{BeginsFor}
use Rattle.he_resolver.specs.Heard.{Told}
use Rattle.he_resolver.specs.declared.lookup.Source.{Source}
use Rattle.he_resolver.specs.declared.lookup.Source.TheVariants as sources
use Rattle.he_source.specs.declared.lookups.Sought.{Sought}

-- the addresses of a cached answer for this family of the host, valid in some second, or why there are none
abbrev pub IsKeptFor : List ℕ → Family → Told → Type 0
IsKeptFor host family told =
    (answer : KeptAnswer) × (now : ℕ) × Serves answer now host family × (told ≡ answer.told)

-- the cached answers of each family of the host that is tried, valid in some second
abbrev pub IsKeptOf : List ℕ → Option Family → KeptHost → Type 0
IsKeptOf host only known = (now : ℕ) × IsOfHost only known now host

-- their addresses
abbrev pub ips_kept : KeptHost → List Ip
ips_kept known = ips_in known.six ++ ips_in known.four

abbrev pub AreKeptOf : List ℕ → Option Family → List Ip → Type 0
AreKeptOf host only ips = (known : KeptHost) × IsKeptOf host only known × (ips ≡ ips_kept known)

-- the look-up begins like the host's own, or answers with the host's cached addresses
abbrev pub BeginsBy : {R : Type 0} → ConnectRequest → Source R → Type 0
BeginsBy request source =
    BeginsFor request.host.now request.resolver request.environment (only_of request.families) source
    ⊎ ((known : Vec Ip) × AreKeptOf request.host.now (only_of request.families) known.items
    × (source ≡ sources.Known known))

-- the look-up answers with these known addresses; without any it is the host's own, for the only family if there is
-- one
abbrev pub BeginsKnown : {R : Type 0} → ConnectRequest → List ℕ → Option Family → Option (List Ip) → Source R → Type 0
BeginsKnown request host only (Some known) source = (ips : Vec Ip) × (ips.items ≡ known) × (source ≡ sources.Known ips)
BeginsKnown request host only None source = BeginsFor host request.resolver request.environment only source

abbrev pub known_in : Sought → Option (List Ip)
known_in sought = option_map (λ known. known.now) sought.known

abbrev pub BeginsSought : {R : Type 0} → ConnectRequest → Sought → Source R → Type 0
BeginsSought request sought source = BeginsKnown request sought.host.now sought.only (known_in sought) source
