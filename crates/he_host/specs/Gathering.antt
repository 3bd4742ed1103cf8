-- Which of the lines found a machine leaves out, and the order in which routes are kept.
use Rattle.std.specs.Prelude.{ℕ, ◌+◌, ◌-◌, ◌*◌, ◌^◌, ◌++◌, List, [], ◌∷◌, Result, Ok, Err, if◌then◌else◌}
use Rattle.std.specs.List.Sorted.{IsNonDecreasingBy, IsPermutation, IsStableByKey}
use Rattle.std.specs.Ordering.{nat_cmp}
use Rattle.he_addr.specs.Prefix.{PrefixBits, is_inside_mapped}
use Rattle.he_select.specs.declared.host.Route.{Route}
use Rattle.he_select.specs.declared.host.Source.{Source}
use Rattle.he_kernel.specs.declared.why.Why.{Why}
use Rattle.he_kernel.specs.declared.why.Why.TheVariants as whys
use Rattle.he_kernel.specs.Keeping.{judged_route, judged_source, with_kept}
use Rattle.he_host.specs.declared.found.FoundRoute.{FoundRoute}
use Rattle.he_host.specs.declared.found.FoundSource.{FoundSource}
use Rattle.he_host.specs.declared.found.Metered.{Metered}
use Rattle.he_host.specs.declared.left_out.File.{File}
use Rattle.he_host.specs.declared.left_out.LeftOut.{LeftOut}

-- the length of a prefix in its family, 0 for all addresses
abbrev pub family_len : PrefixBits → ℕ
family_len prefix = if is_inside_mapped prefix then prefix.len - 96 else prefix.len

-- the rank of a route: first by prefix length, then by metric; a line without a route comes first
abbrev pub rank : Result Metered Why → ℕ
rank (Err why) = 0
rank (Ok metered) = family_len metered.route.prefix * 2 ^ 64 + metered.metric

abbrev pub rank_found : FoundRoute → ℕ
rank_found found = rank found.read

-- the routes sorted by rank; the sort is stable
pub record IsRanked (found ranked : List FoundRoute) : Type 0 where
  pub same : IsPermutation found ranked
  pub ascends : IsNonDecreasingBy rank_found ranked
  pub stable : IsStableByKey rank_found nat_cmp found ranked

-- a route whose interface has a carrier
abbrev pub usable_route : Result Metered Why → Result Route Why
usable_route (Err why) = Err why
usable_route (Ok metered) = if metered.carrier then Ok metered.route else Err whys.Down

-- the result for a line
abbrev pub source_read : FoundSource → Result Source Why
source_read found = found.read

abbrev pub route_read : FoundRoute → Result Route Why
route_read found = usable_route found.read

-- the report of a line that is left out
abbrev pub told_of : {X : Type 0} → File → ℕ → Result X Why → List LeftOut
told_of file line (Ok x) = []
told_of file line (Err why) = record { file = file; line = line; why = why } ∷ []

-- the lines of sources that are left out, after the sources in `kept`
abbrev pub sources_left : List Source → List FoundSource → List LeftOut
sources_left kept [] = []
sources_left kept (found ∷ more) =
    told_of found.file found.line (judged_source kept found.read)
    ++ sources_left (with_kept kept (judged_source kept found.read)) more

-- the lines of routes that are left out, after the routes in `kept`
abbrev pub routes_left : List Route → List FoundRoute → List LeftOut
routes_left kept [] = []
routes_left kept (found ∷ more) =
    told_of found.file found.line (judged_route kept (usable_route found.read))
    ++ routes_left (with_kept kept (judged_route kept (usable_route found.read))) more
