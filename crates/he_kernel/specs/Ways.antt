-- A machine for which the rules select the kernel's sources (RFC 6724 section 5).
use Rattle.std.specs.Prelude.{◌≡◌, ◌++◌, Bool, true, false, not, if◌then◌else◌, List, [], ◌∷◌, count_by, find, map, nat_le, Option, Some, None, Result, Ok, Err, option_map}
use Rattle.std.specs.List.{list_any}
use Rattle.std.specs.Option.{option_map_or}
use Rattle.he_addr.specs.declared.ip.Ip.{Ip}
use Rattle.he_addr.specs.Ip.{is_v6, mapped_of, same_ip}
use Rattle.he_addr.specs.Prefix.{PrefixBits}
use Rattle.he_select.specs.declared.host.Route.{Route}
use Rattle.he_select.specs.declared.host.Source.{Source}
use Rattle.he_select.specs.declared.policy.Row.{Row}
use Rattle.he_select.specs.HostFaults.{host_of}
use Rattle.he_select.specs.Hosts.{HostLists}
use Rattle.he_select.specs.Selection.{selection_input, source_of}
use Rattle.he_kernel.specs.declared.why.Why.{Why}
use Rattle.he_kernel.specs.declared.why.Why.TheVariants as whys
use Rattle.he_kernel.specs.declared.ways.TakenSource.{TakenSource}
use Rattle.he_kernel.specs.declared.ways.Way.{Way}
use Rattle.he_kernel.specs.Keeping.{routes_kept, sources_kept}

-- the properties of a source
abbrev pub own_of : Ip → List TakenSource → Option TakenSource
own_of ip own = find (λ one. same_ip one.source.ip ip) own

-- a prefix of one address
abbrev pub one_address : Ip → PrefixBits
one_address to = record { bits = mapped_of to; len = 128 }

-- the route to a destination, over the source's interface
abbrev pub route_over : PrefixBits → TakenSource → Route
route_over prefix taken = record { prefix = prefix; interface = taken.source.interface; tunnel = taken.tunnel }

abbrev pub route_of_own : PrefixBits → Option TakenSource → Result Route Why
route_of_own prefix None = Err whys.Unconnected
route_of_own prefix (Some taken) = Ok (route_over prefix taken)

abbrev pub route_from : List TakenSource → PrefixBits → Option Ip → Result Route Why
route_from own prefix None = Err whys.Unreachable
route_from own prefix (Some from) = route_of_own prefix (own_of from own)

-- the route of a way; none if the kernel has no way
unfoldable pub way_route : List TakenSource → Way → Result Route Why
way_route own way = route_from own (one_address way.to) way.from

-- the properties of a source that the kernel selects
abbrev pub source_taken : TakenSource → Result Source Why
source_taken taken = Ok taken.source

-- the machine with these sources, and a route for each of these ways
abbrev pub IsHostTo : List TakenSource → List Way → HostLists → Type 0
IsHostTo own ways host =
    Ok host ≡ host_of (sources_kept [] (map source_taken own)) (routes_kept [] (map (way_route own) ways))

abbrev pub same_source : Option Ip → Option Ip → Bool
same_source (Some said) (Some taken) = same_ip said taken
same_source None None = true
same_source said taken = false

-- the rules select another source than the kernel
abbrev pub is_unsaid : List Row → HostLists → Way → Bool
is_unsaid rows host way =
    not (same_source (option_map (λ source. source.ip) (source_of (selection_input rows host) way.to)) way.from)

abbrev pub ip_of : TakenSource → Ip
ip_of taken = taken.source.ip

abbrev pub with_source : List Ip → Option Ip → List Ip
with_source taken None = taken
with_source taken (Some ip) = if list_any (λ other. same_ip other ip) taken then taken else taken ++ ip ∷ []

-- the sources of these ways after those in `taken`, each once
abbrev pub sources_after : List Ip → List Way → List Ip
sources_after taken [] = taken
sources_after taken (way ∷ ways) = sources_after (with_source taken way.from) ways

-- the machine for which the rules select the sources of these ways: their sources, and the routes
abbrev pub IsMachineOf : List Way → HostLists → Type 0
IsMachineOf ways host =
    (own : List TakenSource) × (map ip_of own ≡ sources_after [] ways) × IsHostTo own ways host

-- the machine for the kernel's answers for these destinations
abbrev pub IsMachineTo : List Ip → HostLists → Type 0
IsMachineTo ips host = (ways : List Way) × (map (λ way. way.to) ways ≡ ips) × IsMachineOf ways host

-- the kernel selects an IPv4 source, which it does only for IPv4 destinations
abbrev pub is_v4_way : Way → Bool
is_v4_way way = option_map_or (λ ip. not (is_v6 ip)) way.from false

-- Rule 9 (RFC 6724 section 6) compares destinations of one family by their sources: two IPv4 destinations have one.
abbrev pub compares_v4 : List Way → Bool
compares_v4 ways = nat_le 2 (count_by is_v4_way ways)
