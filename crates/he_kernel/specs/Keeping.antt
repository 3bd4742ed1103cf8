-- Which of the sources and routes found a machine keeps, and why others are left out.
use Rattle.std.specs.Prelude.{◌==◌, ◌&&◌, ◌++◌, Bool, List, [], ◌∷◌, Result, Ok, Err, length, nat_le, not, if◌then◌else◌}
use Rattle.std.specs.List.{list_any}
use Rattle.he_select.specs.declared.host.Route.{Route}
use Rattle.he_select.specs.declared.host.Source.{Source}
use Rattle.he_select.specs.declared.limits.TheConstants.{SOURCES, ROUTES}
use Rattle.he_select.specs.HostFaults.{is_sound_route, is_sound_source}
use Rattle.he_select.specs.Hosts.{same_route, same_source}
use Rattle.he_kernel.specs.declared.why.Why.{Why}
use Rattle.he_kernel.specs.declared.why.Why.TheVariants as whys

-- equal prefixes and interfaces
abbrev pub same_way : Route → Route → Bool
same_way a b = same_route b a && b.interface == a.interface

abbrev pub source_behind : List Source → Source → Result Source Why
source_behind kept source =
    if not (is_sound_source source) then Err whys.Unusable
    else (if list_any (same_source source) kept then Err whys.Repeated
    else (if nat_le SOURCES (length kept) then Err whys.TooMany else Ok source))

-- a source to keep after these: a valid one, whose address is not kept yet, within the limit
unfoldable pub judged_source : List Source → Result Source Why → Result Source Why
judged_source kept (Err why) = Err why
judged_source kept (Ok source) = source_behind kept source

abbrev pub route_behind : List Route → Route → Result Route Why
route_behind kept route =
    if not (is_sound_route route) then Err whys.Down
    else (if list_any (same_way route) kept then Err whys.Again
    else (if list_any (same_route route) kept then Err whys.Repeated
    else (if nat_le ROUTES (length kept) then Err whys.TooMany else Ok route)))

-- a route to keep after these: its interface has a number, its prefix is not kept yet, and it is within the limit
unfoldable pub judged_route : List Route → Result Route Why → Result Route Why
judged_route kept (Err why) = Err why
judged_route kept (Ok route) = route_behind kept route

-- the kept ones after one more
abbrev pub with_kept : {X : Type 0} → List X → Result X Why → List X
with_kept kept (Ok x) = kept ++ x ∷ []
with_kept kept (Err why) = kept

-- the sources kept, after those in `kept`
abbrev pub sources_kept : List Source → List (Result Source Why) → List Source
sources_kept kept [] = kept
sources_kept kept (read ∷ more) = sources_kept (with_kept kept (judged_source kept read)) more

-- the routes kept, after those in `kept`
abbrev pub routes_kept : List Route → List (Result Route Why) → List Route
routes_kept kept [] = kept
routes_kept kept (read ∷ more) = routes_kept (with_kept kept (judged_route kept read)) more
