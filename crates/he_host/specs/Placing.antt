-- The interfaces and prefix lengths of the host's IPv4 addresses. No file has them: they are those of the longest
-- connected route that contains the address, the first of several.
use Rattle.std.specs.Prelude.{◌-◌, ◌/◌, ◌^◌, ◌==◌, ◌&&◌, Bool, false, not, List, [], ◌∷◌, Option, Some, None, Result, Ok, Err, nat_le, if◌then◌else◌}
use Rattle.he_addr.specs.declared.ip.Ip.{Ip}
use Rattle.he_addr.specs.declared.ip.Ip.TheVariants.{V4, V6}
use Rattle.he_addr.specs.Ip.{is_usable, same_ip}
use Rattle.he_addr.specs.Prefix.{contains}
use Rattle.he_select.specs.declared.host.Route.{Route}
use Rattle.he_select.specs.declared.host.Source.{Source}
use Rattle.he_host.specs.declared.fib_trie.OwnAddress.{OwnAddress}
use Rattle.he_host.specs.declared.found.FoundRoute.{FoundRoute}
use Rattle.he_host.specs.declared.found.FoundSource.{FoundSource}
use Rattle.he_host.specs.declared.found.Metered.{Metered}
use Rattle.he_host.specs.declared.interface.Interface.{Interface}
use Rattle.he_kernel.specs.declared.link.Link.{Link}
use Rattle.he_host.specs.declared.left_out.File.TheVariants as files
use Rattle.he_kernel.specs.declared.why.Why.{Why}
use Rattle.he_kernel.specs.declared.why.Why.TheVariants as whys
use Rattle.he_host.specs.declared.placing.InterfaceAnswer.{InterfaceAnswer}
use Rattle.he_host.specs.declared.placing.Place.{Place}
use Rattle.he_host.specs.declared.placing.TheConstants.{LOOPBACK_LEN}
use Rattle.he_host.specs.Interfaces.{loopback_of}

-- 127.0.0.0/8
abbrev pub is_loopback : Ip → Bool
is_loopback (V4 number) = number / 2 ^ 24 == 127
is_loopback (V6 number) = false

-- a connected route contains the address: its prefix is an IPv4 one other than 0.0.0.0/0
abbrev pub holds : Ip → Metered → Bool
holds ip metered = metered.connected && not (nat_le metered.route.prefix.len 96) && contains metered.route.prefix ip

-- the longer of two routes, the first if they are equally long
abbrev pub longer_route : Route → Route → Route
longer_route kept other = if nat_le other.prefix.len kept.prefix.len then kept else other

abbrev pub longest_route : Option Route → Route → Route
longest_route None route = route
longest_route (Some best) route = longer_route best route

-- the longest route, after one more that may contain the address
abbrev pub longer : Ip → Option Route → Metered → Option Route
longer ip best metered = if holds ip metered then Some (longest_route best metered.route) else best

abbrev pub longer_read : Ip → Option Route → Result Metered Why → Option Route
longer_read ip best (Err why) = best
longer_read ip best (Ok metered) = longer ip best metered

-- the longest route that contains the address, where `best` is the longest before these
abbrev pub connected_from : Ip → Option Route → List FoundRoute → Option Route
connected_from ip best [] = best
connected_from ip best (found ∷ more) = connected_from ip (longer_read ip best found.read) more

-- the place of the address by the kernel's answers
abbrev pub asked_for : Ip → List InterfaceAnswer → Option Place
asked_for ip [] = None
asked_for ip (told ∷ more) =
    if same_ip told.ip ip && not (told.interface == 0) then Some (record { plen = 32; interface = told.interface })
    else asked_for ip more

abbrev pub loopback_place : Option Link → Result Place Why
loopback_place None = Err whys.Down
loopback_place (Some link) = Ok (record { plen = LOOPBACK_LEN; interface = link.number })

abbrev pub asked_place : Option Place → Result Place Why
asked_place None = Err whys.Unconnected
asked_place (Some place) = Ok place

abbrev pub connected_place : Option Place → Option Route → Result Place Why
connected_place told None = asked_place told
connected_place told (Some route) = Ok (record { plen = route.prefix.len - 96; interface = route.interface })

-- the place of an IPv4 address: the loopback interface, that of its connected route, or else the kernel's answer
unfoldable pub place_of : List Interface → List FoundRoute → List InterfaceAnswer → Ip → Result Place Why
place_of interfaces routes asked ip =
    if is_loopback ip then loopback_place (loopback_of interfaces)
    else connected_place (asked_for ip asked) (connected_from ip None routes)

abbrev pub source_at : Ip → Place → Source
source_at ip place =
    record { ip = ip; plen = place.plen; interface = place.interface; deprecated = false; temporary = false }

abbrev pub source_where : Ip → Result Place Why → Result Source Why
source_where ip (Ok place) = Ok (source_at ip place)
source_where ip (Err why) = Err why

-- the source of an address
abbrev pub usable_source : List Interface → List FoundRoute → List InterfaceAnswer → Ip → Result Source Why
usable_source interfaces routes asked ip =
    if is_usable ip then source_where ip (place_of interfaces routes asked ip) else Err whys.Unusable

unfoldable pub read_own : List Interface → List FoundRoute → List InterfaceAnswer → Option Ip → Result Source Why
read_own interfaces routes asked None = Err whys.Unclear
read_own interfaces routes asked (Some ip) = usable_source interfaces routes asked ip

-- the result for an address of /proc/net/fib_trie
abbrev pub found_own : List Interface → List FoundRoute → List InterfaceAnswer → OwnAddress → FoundSource
found_own interfaces routes asked address =
    record { file = files.FibTrie; line = address.line; read = read_own interfaces routes asked address.ip }
