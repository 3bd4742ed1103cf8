-- Mirrors the code: the search for faults of a host's lists, in the order of the checks.
use Rattle.std.specs.Prelude.{◌==◌, ◌&&◌, ◌||◌, Bool, not, nat_lt, nat_le, List, [], ◌∷◌, length, Option, option_map, Result, Ok, Err}
use Rattle.std.specs.List.{position_from}
use Rattle.std.specs.Option.{option_map_or}
use Rattle.he_addr.specs.Ip.{is_usable}
use Rattle.he_addr.specs.Prefix.{width_of}
use Rattle.he_select.specs.declared.limits.TheConstants.{SOURCES, ROUTES}
use Rattle.he_select.specs.declared.host.Source.{Source}
use Rattle.he_select.specs.declared.host.Route.{Route}
use Rattle.he_select.specs.declared.host.HostFault.{HostFault}
use Rattle.he_select.specs.declared.host.HostFault.TheVariants as faults
use Rattle.he_select.specs.Hosts.{HostLists, same_route, same_source}
use Rattle.he_select.specs.Refusals.{first_repeat, cause_if, first_cause}

-- a usable address, a prefix length that fits its family, and an interface number of at least 1
abbrev pub is_sound_source : Source → Bool
is_sound_source source = is_usable source.ip && nat_le source.plen (width_of source.ip) && not (source.interface == 0)

abbrev pub is_sound_route : Route → Bool
is_sound_route route = not (route.interface == 0)

-- the faults of the lists, in their order
abbrev pub host_causes : List Source → List Route → List (Option HostFault)
host_causes sources routes =
    cause_if (nat_lt SOURCES (length sources) || nat_lt ROUTES (length routes)) faults.TooMany
    ∷ option_map faults.RepeatedSource (first_repeat same_source sources)
    ∷ option_map faults.RepeatedRoute (first_repeat same_route routes)
    ∷ option_map faults.BadSource (position_from (λ source. not (is_sound_source source)) 0 sources)
    ∷ option_map faults.BadRoute (position_from (λ route. not (is_sound_route route)) 0 routes)
    ∷ []

-- the first fault of the lists
unfoldable pub host_fault : List Source → List Route → Option HostFault
host_fault sources routes = first_cause (host_causes sources routes)

-- the host of these lists, or their first fault
abbrev pub host_of : List Source → List Route → Result HostLists HostFault
host_of sources routes =
    option_map_or Err (host_fault sources routes) (Ok (record { sources = sources; routes = routes }))
