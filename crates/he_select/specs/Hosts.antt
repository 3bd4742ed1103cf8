-- A host's sources and routes, and the lists that are a host's.
use Rattle.std.specs.Prelude.{◌≤◌, ◌≢◌, Bool, List, length, All, AllPairs, IsTrue}
use Rattle.he_addr.specs.Ip.{is_usable, same_ip}
use Rattle.he_addr.specs.Prefix.{width_of}
use Rattle.he_select.specs.declared.host.Source.{Source}
use Rattle.he_select.specs.declared.host.Route.{Route}
use Rattle.he_select.specs.Tables.{same_prefix}
use Rattle.he_select.specs.Ranges.{least_interface, most_routes, most_sources}

-- the lists of a host
pub record HostLists : Type 0 where
  pub sources : List Source
  pub routes : List Route

abbrev pub same_source : Source → Source → Bool
same_source a b = same_ip a.ip b.ip

abbrev pub same_route : Route → Route → Bool
same_route a b = same_prefix a.prefix b.prefix

-- a usable address, a prefix length that fits its family, and an interface number of at least 1
pub record IsSoundSource (source : Source) : Type 0 where
  pub usable : IsTrue (is_usable source.ip)
  pub plen : source.plen ≤ width_of source.ip
  pub interface : least_interface ≤ source.interface

abbrev pub IsSoundRoute : Route → Type 0
IsSoundRoute route = least_interface ≤ route.interface

abbrev pub HasHostSize : HostLists → Type 0
HasHostSize host = (length host.sources ≤ most_sources) × (length host.routes ≤ most_routes)

abbrev pub AddressesDiffer : HostLists → Type 0
AddressesDiffer host = AllPairs (λ a b. a.ip ≢ b.ip) host.sources

abbrev pub RoutesDiffer : HostLists → Type 0
RoutesDiffer host = AllPairs (λ a b. a.prefix ≢ b.prefix) host.routes

-- lists are a host's: at most 64 sources and 64 routes, with pairwise different addresses and prefixes, and each
-- member sound
pub record IsHost (host : HostLists) : Type 0 where
  pub size : HasHostSize host
  pub different_sources : AddressesDiffer host
  pub different_routes : RoutesDiffer host
  pub sound_sources : All IsSoundSource host.sources
  pub sound_routes : All IsSoundRoute host.routes
