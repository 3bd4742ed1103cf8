-- The addresses of a host that are known without a name server: it is an address or this machine, or it is in the
-- hosts file.
use Rattle.std.specs.Prelude.{ℕ, ◌≡◌, ◌⊎◌, ◌<◌, ⊤, List, [], ◌∷◌, Option, Some, None, length, map, string_bytes}
use Rattle.std.specs.Global.{Vec}
use Rattle.std.specs.Option.{option_map}
use Rattle.he_addr.specs.declared.ip.Ip.{Ip}
use Rattle.he_addr.specs.declared.ip.Ip.TheVariants as ips
use Rattle.he_names.specs.Hosts.{hosts_in}
use Rattle.he_names.specs.Targets.{IsUnfit, Means}
use Rattle.he_names.specs.declared.target.HostFault.{HostFault}
use Rattle.he_names.specs.declared.target.Target.{Target}
use Rattle.he_names.specs.declared.target.Target.TheVariants as targets
use Rattle.he_settings.specs.Faults.{IsOfFile, of_host}
use Rattle.he_settings.specs.Meant.{meant_by}
use Rattle.he_settings.specs.declared.choice.Choice.{Choice}
use Rattle.he_settings.specs.declared.choice.Choice.TheVariants as choices
use Rattle.he_settings.specs.declared.file_fault.SystemFile.TheVariants as files
use Rattle.he_settings.specs.declared.fault.NamesFault.{NamesFault}
use Rattle.he_settings.specs.declared.fault.NamesFault.TheVariants as faults

-- the addresses of both families for a name in the hosts file, with unspecified ones replaced
abbrev pub listed : List ℕ → List ℕ → List Ip
listed name hosts = map meant_by (hosts_in name hosts)

-- this machine: ::1 and 127.0.0.1 (RFC 6761 section 6.3)
abbrev pub here : List Ip
here = ips.V6 1 ∷ ips.V4 2130706433 ∷ []

abbrev pub or_here : List Ip → List Ip
or_here [] = here
or_here (ip ∷ more) = ip ∷ more

-- an address itself; this machine's own; those in the hosts file; or, for a name in localhost without one there, this
-- machine's
abbrev pub known_of : Target → List ℕ → List Ip
known_of (targets.Address ip) hosts = ip ∷ []
known_of (targets.OnLink ip interface) hosts = ip ∷ []
known_of targets.Loopback hosts = here
known_of (targets.InLoopback name) hosts = or_here (listed (string_bytes name) hosts)
known_of (targets.Multicast name) hosts = listed (string_bytes name) hosts
known_of (targets.Name name) hosts = listed (string_bytes name) hosts

-- the addresses of a vector, if there is one
abbrev pub items_of : Option (Vec Ip) → Option (List Ip)
items_of known = option_map (λ ips. ips.items) known

-- all of them, if any
abbrev pub AreAll : List Ip → Option (List Ip) → Type 0
AreAll all None = all ≡ []
AreAll all (Some known) = (known ≡ all) × (0 < length all)

-- the addresses that are known by this machine's hosts file
abbrev pub IsKnown : Target → Option (List Ip) → Type 0
IsKnown target known = (hosts : List ℕ) × AreAll (known_of target hosts) known

-- the system's resolver is asked for a name, if it is chosen: it reads the hosts file itself
abbrev pub AsksSystem : Choice → Target → Type 0
AsksSystem choices.System (targets.Name name) = ⊤
AsksSystem choices.System (targets.Multicast name) = ⊤
AsksSystem choice target = ⊥

abbrev pub IsKnownTo : Choice → Target → Option (List Ip) → Type 0
IsKnownTo choice target known = (AsksSystem choice target × (known ≡ None)) ⊎ IsKnown target known

-- the addresses that are known for the host of a text
abbrev pub FindsKnown : List ℕ → Choice → Option (List Ip) → Type 0
FindsKnown text choice known = (target : Target) × Means text target × IsKnownTo choice target known

-- a host that may be in the hosts file
abbrev pub MayBeListed : Target → Type 0
MayBeListed (targets.InLoopback name) = ⊤
MayBeListed (targets.Multicast name) = ⊤
MayBeListed (targets.Name name) = ⊤
MayBeListed target = ⊥

-- the faults of a look-up in the hosts file: out of memory or, for a name, the hosts file can't be read
abbrev pub IsOfHosts : Target → NamesFault → Type 0
IsOfHosts target fault = (fault ≡ faults.Memory) ⊎ (MayBeListed target × IsOfFile files.Hosts fault)

-- the fault of a text that is not a host, out of memory, or the fault of the hosts file
abbrev pub IsFaultOf : List ℕ → NamesFault → Type 0
IsFaultOf text fault =
    ((host : HostFault) × IsUnfit text host × (fault ≡ of_host host))
    ⊎ ((target : Target) × Means text target × IsOfHosts target fault)
