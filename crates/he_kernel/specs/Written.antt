-- The `source` and `route` lines of a machine.
use Rattle.std.specs.Prelude.{ℕ, ◌++◌, Bool, List, [], ◌∷◌, codes, decimal, true, if◌then◌else◌}
use Rattle.he_addr.specs.Printing.{prefix_text, source_text}
use Rattle.he_select.specs.declared.host.Route.{Route}
use Rattle.he_select.specs.declared.host.Source.{Source}
use Rattle.he_select.specs.Hosts.{HostLists}

abbrev pub mark : Bool → List ℕ → List ℕ
mark holds word = if holds then word else []

-- [deprecated] [temporary]
abbrev pub source_end : Source → List ℕ
source_end source =
    mark source.deprecated (codes " deprecated") ++ mark source.temporary (codes " temporary") ++ 10 ∷ []

-- source ADDRESS/LENGTH INTERFACE [deprecated] [temporary]
abbrev pub source_line : Source → List ℕ
source_line source =
    codes "source " ++ source_text source.ip source.plen ++ codes " " ++ decimal source.interface ++ source_end source

-- route PREFIX INTERFACE [tunnel]; IPv4 prefixes in IPv4 notation
abbrev pub route_line : Route → List ℕ
route_line route =
    codes "route " ++ prefix_text true route.prefix ++ codes " " ++ decimal route.interface
    ++ mark route.tunnel (codes " tunnel") ++ 10 ∷ []

abbrev pub written_sources : List Source → List ℕ
written_sources [] = []
written_sources (source ∷ more) = source_line source ++ written_sources more

abbrev pub written_routes : List Route → List ℕ
written_routes [] = []
written_routes (route ∷ more) = route_line route ++ written_routes more

-- the sources' lines, then the routes'
abbrev pub host_lines : HostLists → List ℕ
host_lines host = written_sources host.sources ++ written_routes host.routes
