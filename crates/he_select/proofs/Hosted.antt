-- Lists are a host's exactly where the search finds no fault, and the fault that it finds is the first one.
use Rattle.std.proofs.Common.{◌≡◌, ℕ, ◌≤◌, ◌==◌, ◌||◌, ◌&&◌, Bool, true, false, not, nat_lt, nat_le, length, sym, ◌∙◌, ap, subst, arith, IsTrue, List}
use Rattle.std.specs.Prelude.{Option, None, Some, option_map, is_none, All}
use Rattle.std.specs.List.{list_all, position_from}
use Rattle.std.proofs.lemmas.Bool.{both_ways}
use Rattle.std.proofs.lemmas.Bool.Decides.{nat_tests}
use Rattle.he_addr.specs.Ip.{is_usable, same_ip}
use Rattle.he_addr.specs.Prefix.{width_of}
use Rattle.he_addr.specs.declared.ip.Ip.{Ip}
use Rattle.he_select.specs.declared.limits.TheConstants.{SOURCES, ROUTES}
use Rattle.he_select.specs.declared.host.HostFault.{HostFault}
use Rattle.he_select.specs.declared.host.HostFault.TheVariants as faults
use Rattle.he_select.specs.declared.host.Route.{Route}
use Rattle.he_select.specs.declared.known.Known.{Known}
use Rattle.he_select.specs.declared.host.Source.{Source}
use Rattle.he_select.specs.Faults.{IsHostFault}
use Rattle.he_select.specs.HostFaults.{host_causes, host_fault, is_sound_route, is_sound_source}
use Rattle.he_select.specs.Hosts.{AddressesDiffer, HasHostSize, HostLists, IsHost, IsSoundRoute, IsSoundSource, RoutesDiffer, same_route, same_source}
use Rattle.he_select.specs.Ranges.{least_interface, most_routes, most_sources}
use Rattle.he_select.specs.declared.policy.Row.{Row}
use Rattle.he_select.specs.Refusals.{cause_if, first_repeat}
use Rattle.he_select.specs.Selection.{SelectionInput, known_input}
use Rattle.he_select.specs.Tables.{same_prefix}
use Rattle.he_select.proofs.Apart.{all_pass, apart, first_failing, never_repeats, none_failing}
use Rattle.he_select.proofs.Causes.{all_from_none, cause_none, cause_some, first_of_five, map_none, map_some, none_is, none_of_five, none_stands}
use Rattle.he_select.proofs.Equality.{and_both, and_left, and_right, ip_from, ip_self, prefix_from, prefix_self}
use Rattle.he_select.proofs.Least.{first_repeat_least, no_repeat}

le_from : (m n : ℕ) → nat_le m n ≡ true → m ≤ n
le_from m n h = grind (arith, nat_tests)

from_le : (m n : ℕ) → m ≤ n → nat_le m n ≡ true
from_le m n h = grind (arith, nat_tests)

numbered_from : (n : ℕ) → not (n == 0) ≡ true → least_interface ≤ n
numbered_from n h = grind (arith, nat_tests)

from_numbered : (n : ℕ) → least_interface ≤ n → not (n == 0) ≡ true
from_numbered n h = grind (arith, nat_tests)

source_sound : (source : Source) → is_sound_source source ≡ true → IsSoundSource source
source_sound source h =
    let parts = and_left (is_usable source.ip && nat_le source.plen (width_of source.ip)) (not (source.interface == 0)) h in
    record {
      usable = and_left (is_usable source.ip) (nat_le source.plen (width_of source.ip)) parts;
      plen = le_from source.plen (width_of source.ip) (and_right (is_usable source.ip) (nat_le source.plen (width_of source.ip)) parts);
      interface = numbered_from source.interface (and_right (is_usable source.ip && nat_le source.plen (width_of source.ip)) (not (source.interface == 0)) h);
    }

sound_source : (source : Source) → IsSoundSource source → is_sound_source source ≡ true
sound_source source h =
    and_both _ _ (and_both _ _ h.usable (from_le source.plen (width_of source.ip) h.plen)) (from_numbered source.interface h.interface)

route_sound : (route : Route) → is_sound_route route ≡ true → IsSoundRoute route
route_sound route h = numbered_from route.interface h

sound_route : (route : Route) → IsSoundRoute route → is_sound_route route ≡ true
sound_route route h = from_numbered route.interface h

source_equal : (a b : Source) → same_source a b ≡ true → a.ip ≡ b.ip
source_equal a b h = ip_from a.ip b.ip h

source_itself : (a b : Source) → a.ip ≡ b.ip → same_source a b ≡ true
source_itself a b e = subst (λ (ip : Ip). same_ip a.ip ip ≡ true) e (ip_self a.ip)

route_equal : (a b : Route) → same_route a b ≡ true → a.prefix ≡ b.prefix
route_equal a b h = prefix_from a.prefix b.prefix h

route_itself : (a b : Route) → a.prefix ≡ b.prefix → same_route a b ≡ true
route_itself a b e = subst (λ p. same_prefix a.prefix p ≡ true) e (prefix_self a.prefix)

few_from : (m n : ℕ) → (nat_lt SOURCES m || nat_lt ROUTES n) ≡ false → (m ≤ most_sources) × (n ≤ most_routes)
few_from m n h = (grind (arith, nat_tests), grind (arith, nat_tests))

from_few : (m n : ℕ) → (m ≤ most_sources) × (n ≤ most_routes) → (nat_lt SOURCES m || nat_lt ROUTES n) ≡ false
from_few m n h = let few : m ≤ 64 = h.0 in let also : n ≤ 64 = h.1 in grind (arith, nat_tests)

abbrev is_much : HostLists → Bool
is_much host = nat_lt SOURCES (length host.sources) || nat_lt ROUTES (length host.routes)

abbrev size_cause : HostLists → Option HostFault
size_cause host = cause_if (is_much host) faults.TooMany

abbrev source_cause : HostLists → Option HostFault
source_cause host = option_map faults.RepeatedSource (first_repeat same_source host.sources)

abbrev route_cause : HostLists → Option HostFault
route_cause host = option_map faults.RepeatedRoute (first_repeat same_route host.routes)

abbrev bad_source_cause : HostLists → Option HostFault
bad_source_cause host = option_map faults.BadSource (position_from (λ source. not (is_sound_source source)) 0 host.sources)

abbrev bad_route_cause : HostLists → Option HostFault
bad_route_cause host = option_map faults.BadRoute (position_from (λ route. not (is_sound_route route)) 0 host.routes)

pub no_fault_from : (host : HostLists) → IsHost host → host_fault host.sources host.routes ≡ None
unfolding host_fault
no_fault_from host h =
    none_of_five (size_cause host) (source_cause host) (route_cause host) (bad_source_cause host) (bad_route_cause host)
    (ap (λ b. cause_if b faults.TooMany) (from_few (length host.sources) (length host.routes) h.size))
    (ap (option_map faults.RepeatedSource) (never_repeats (λ (source : Source). source.ip) same_source source_equal source_itself host.sources h.different_sources))
    (ap (option_map faults.RepeatedRoute) (never_repeats (λ (route : Route). route.prefix) same_route route_equal route_itself host.routes h.different_routes))
    (ap (option_map faults.BadSource) (all_pass IsSoundSource is_sound_source source_sound sound_source host.sources h.sound_sources))
    (ap (option_map faults.BadRoute) (all_pass IsSoundRoute is_sound_route route_sound sound_route host.routes h.sound_routes))

sized : (host : HostLists) → size_cause host ≡ None → HasHostSize host
sized host e = few_from (length host.sources) (length host.routes) (cause_none (is_much host) faults.TooMany e)

addresses_differ : (host : HostLists) → source_cause host ≡ None → AddressesDiffer host
addresses_differ host e = apart (λ (source : Source). source.ip) same_source source_equal source_itself host.sources (no_repeat same_source host.sources (map_none faults.RepeatedSource (first_repeat same_source host.sources) e))

routes_differ : (host : HostLists) → route_cause host ≡ None → RoutesDiffer host
routes_differ host e = apart (λ (route : Route). route.prefix) same_route route_equal route_itself host.routes (no_repeat same_route host.routes (map_none faults.RepeatedRoute (first_repeat same_route host.routes) e))

sources_sound : (host : HostLists) → bad_source_cause host ≡ None → All IsSoundSource host.sources
sources_sound host e = none_failing IsSoundSource is_sound_source source_sound sound_source host.sources (map_none faults.BadSource (position_from (λ source. not (is_sound_source source)) 0 host.sources) e)

routes_sound : (host : HostLists) → bad_route_cause host ≡ None → All IsSoundRoute host.routes
routes_sound host e = none_failing IsSoundRoute is_sound_route route_sound sound_route host.routes (map_none faults.BadRoute (position_from (λ route. not (is_sound_route route)) 0 host.routes) e)

pub host_from : (host : HostLists) → IsTrue (is_none (host_fault host.sources host.routes)) → IsHost host
unfolding host_fault
host_from host h =
    let n = none_stands (host_causes host.sources host.routes) h in
    record {
      size = sized host (none_is (size_cause host) n.0);
      different_sources = addresses_differ host (none_is (source_cause host) n.1.0);
      different_routes = routes_differ host (none_is (route_cause host) n.1.1.0);
      sound_sources = sources_sound host (none_is (bad_source_cause host) n.1.1.1.0);
      sound_routes = routes_sound host (none_is (bad_route_cause host) n.1.1.1.1.0);
    }

pub first_host_fault : (host : HostLists) (fault : HostFault) → host_fault host.sources host.routes ≡ Some fault → IsHostFault host fault
unfolding host_fault
first_host_fault host fault e =
    let P : HostFault → Type 0 = IsHostFault host in
    first_of_five (size_cause host) (source_cause host) (route_cause host) (bad_source_cause host) (bad_route_cause host)
    fault (P fault) e
    (λ here. let is = cause_some (is_much host) faults.TooMany fault here in
    subst P is.1 (λ (size : HasHostSize host). both_ways (is_much host) (from_few (length host.sources) (length host.routes) size) is.0))
    (λ a here. let is = map_some faults.RepeatedSource (first_repeat same_source host.sources) fault here in
    subst P is.2 (sized host a, first_repeat_least same_source host.sources is.0 is.1))
    (λ a b here. let is = map_some faults.RepeatedRoute (first_repeat same_route host.routes) fault here in
    subst P is.2 (sized host a, addresses_differ host b, first_repeat_least same_route host.routes is.0 is.1))
    (λ a b c here. let is = map_some faults.BadSource (position_from (λ source. not (is_sound_source source)) 0 host.sources) fault here in
    subst P is.2 (sized host a, addresses_differ host b, routes_differ host c, first_failing IsSoundSource is_sound_source source_sound sound_source host.sources is.0 is.1))
    (λ a b c d here. let is = map_some faults.BadRoute (position_from (λ route. not (is_sound_route route)) 0 host.routes) fault here in
    subst P is.2 (sized host a, addresses_differ host b, routes_differ host c, sources_sound host d, first_failing IsSoundRoute is_sound_route route_sound sound_route host.routes is.0 is.1))

-- each source of a host is sound
pub all_sound : (host : HostLists) → IsHost host → IsTrue (list_all is_sound_source host.sources)
unfolding host_fault
all_sound host h =
    all_from_none is_sound_source host.sources 0 (ap is_none (all_pass IsSoundSource is_sound_source source_sound sound_source host.sources h.sound_sources))

pub no_fault : (host : HostLists) → IsHost host → IsTrue (is_none (host_fault host.sources host.routes))
no_fault host h = ap is_none (no_fault_from host h)

-- what the search answers, as a host is made of it
pub host_by : (host : HostLists) (answer : Option HostFault) → answer ≡ host_fault host.sources host.routes → answer ≡ None → IsHost host
host_by host answer is none = host_from host (ap is_none (sym is ∙ none))

-- what the loops are given of a table and a host
pub given_is : (policy rows : List Row) (host : HostLists) (sources : List Source) (routes : List Route) (known : List Known) → rows ≡ policy → sources ≡ host.sources → routes ≡ host.routes
    → ◌≡◌ {A = SelectionInput} (record { rows = rows; sources = sources; routes = routes; known = known }) (known_input policy host known)
given_is policy rows host sources routes known by_rows by_sources by_routes =
    ap (λ (r : List Row). record { rows = r; sources = sources; routes = routes; known = known }) by_rows
    ∙ ap (λ (s : List Source). record { rows = policy; sources = s; routes = routes; known = known }) by_sources
    ∙ ap (λ (t : List Route). record { rows = policy; sources = host.sources; routes = t; known = known }) by_routes
