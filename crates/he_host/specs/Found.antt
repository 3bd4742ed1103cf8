-- The source or route of a line, by its file and the interface that it names.
use Rattle.std.specs.Prelude.{ℕ, ◌==◌, List, Option, Some, None, Result, Err, if◌then◌else◌}
use Rattle.he_select.specs.declared.host.Source.{Source}
use Rattle.he_host.specs.declared.found.FoundRoute.{FoundRoute}
use Rattle.he_host.specs.declared.found.FoundSource.{FoundSource}
use Rattle.he_host.specs.declared.found.Metered.{Metered}
use Rattle.he_kernel.specs.declared.if_inet6.AddressLine.{AddressLine}
use Rattle.he_host.specs.declared.interface.Interface.{Interface}
use Rattle.he_kernel.specs.declared.link.Link.{Link}
use Rattle.he_kernel.specs.declared.ipv4_line.V4Line.{V4Line}
use Rattle.he_host.specs.declared.ipv6_route.RouteLine.{RouteLine}
use Rattle.he_host.specs.declared.left_out.File.TheVariants as files
use Rattle.he_kernel.specs.declared.why.Why.{Why}
use Rattle.he_kernel.specs.declared.why.Why.TheVariants as whys
use Rattle.he_host.specs.declared.reading.TheConstants.{HEADING}
use Rattle.he_kernel.specs.IfInet6.{address_line, source_of}
use Rattle.he_host.specs.Interfaces.{link_at}
use Rattle.he_host.specs.Ipv4Route.{v4_route}
use Rattle.he_kernel.specs.Ipv4Line.{v4_line}
use Rattle.he_host.specs.Ipv6Route.{route_line, route_of}

abbrev pub source_by : Option Link → Option AddressLine → Result Source Why
source_by link None = Err whys.Unclear
source_by link (Some read) = source_of read link

abbrev pub route_by : Option Link → Option RouteLine → Result Metered Why
route_by link None = Err whys.Unclear
route_by link (Some read) = route_of read link

abbrev pub v4_route_by : Option Link → Option V4Line → Result Metered Why
v4_route_by link None = Err whys.Unclear
v4_route_by link (Some read) = v4_route read link

-- a line of /proc/net/if_inet6, whose field 5 is the interface
unfoldable pub v6_source : List Interface → List ℕ → Result Source Why
v6_source interfaces line = source_by (link_at interfaces 5 line) (address_line line)

-- a line of /proc/net/ipv6_route, whose field 9 is the interface
unfoldable pub v6_route : List Interface → List ℕ → Result Metered Why
v6_route interfaces line = route_by (link_at interfaces 9 line) (route_line line)

-- a line of /proc/net/route, whose field 0 is the interface; the first line has the field names
unfoldable pub v4_route_read : List Interface → ℕ → List ℕ → Result Metered Why
v4_route_read interfaces number line =
    if number == HEADING then Err whys.Internal else v4_route_by (link_at interfaces 0 line) (v4_line line)

-- the result for a line and its number
abbrev pub found_v6_source : List Interface → ℕ × List ℕ → FoundSource
found_v6_source interfaces line = record { file = files.IfInet6; line = line.0; read = v6_source interfaces line.1 }

abbrev pub found_v6_route : List Interface → ℕ × List ℕ → FoundRoute
found_v6_route interfaces line = record { file = files.Ipv6Route; line = line.0; read = v6_route interfaces line.1 }

abbrev pub found_v4_route : List Interface → ℕ × List ℕ → FoundRoute
found_v4_route interfaces line =
    record { file = files.Ipv4Route; line = line.0; read = v4_route_read interfaces line.0 line.1 }
