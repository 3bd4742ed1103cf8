-- The route and the source that the host uses for a destination (RFC 6724 sections 4 and 5).
use Rattle.std.specs.Prelude.{ℕ, ◌-◌, min, ◌==◌, ◌&&◌, ◌||◌, ◌^◌, Bool, false, not, cond, nat_lt, List, [], ◌∷◌, filter, find, None, Option, is_some, option_and_then}
use Rattle.std.specs.Bool.{beq}
use Rattle.std.specs.Option.{option_map_or}
use Rattle.std.specs.declared.cmp.Ordering.TheVariants.{Less, Equal, Greater}
use Rattle.std.specs.Ordering.{is_lt}
use Rattle.he_addr.specs.declared.ip.Ip.{Ip}
use Rattle.he_addr.specs.Ip.{is_v6, scope_of, same_ip}
use Rattle.he_addr.specs.Prefix.{contains, is_inside_mapped, common_of}
use Rattle.he_select.specs.declared.policy.Row.{Row}
use Rattle.he_select.specs.declared.host.Source.{Source}
use Rattle.he_select.specs.declared.host.Route.{Route}
use Rattle.he_select.specs.declared.known.Known.{Known}
use Rattle.he_select.specs.Rules.{Rule, yes_first, higher_first, first_of, best_by}
use Rattle.he_select.specs.Tables.{label_of}
use Rattle.he_select.specs.Hosts.{HostLists}

-- the input of the rules
pub record SelectionInput : Type 0 where
  pub rows : List Row
  pub sources : List Source
  pub routes : List Route
  pub known : List Known

-- an input with knowledge of destinations from earlier connections
abbrev pub known_input : List Row → HostLists → List Known → SelectionInput
known_input rows host known = record { rows = rows; sources = host.sources; routes = host.routes; known = known }

-- an input without such knowledge
abbrev pub selection_input : List Row → HostLists → SelectionInput
selection_input rows host = known_input rows host []

-- an entry without knowledge of the address
abbrev pub nothing_known : Ip → Known
nothing_known ip = record { ip = ip; rtt = None; used = false }

-- the first entry for the address
abbrev pub known_of : List Known → Ip → Option Known
known_of known ip = find (λ one. same_ip one.ip ip) known

-- the known round trip time of an address in milliseconds, if there is one
abbrev pub known_rtt : List Known → Ip → Option ℕ
known_rtt known ip = option_and_then (λ one. one.rtt) (known_of known ip)

-- an address is known to have been used before
abbrev pub known_used : List Known → Ip → Bool
known_used known ip = option_map_or (λ one. one.used) (known_of known ip) false

-- a round trip time counts as at most 2 ^ 64 - 2 milliseconds; an unknown one is greater than every known one
abbrev pub rtt_or_unknown : Option ℕ → ℕ
rtt_or_unknown rtt = option_map_or (λ n. min n (2 ^ 64 - 2)) rtt (2 ^ 64 - 1)

abbrev pub is_longer_route : Route → Route → Bool
is_longer_route a b = nat_lt b.prefix.len a.prefix.len

-- a route inside ::ffff:0:0/96 serves only IPv4 destinations, any other route only IPv6 destinations
abbrev pub serves : Ip → Route → Bool
serves ip route = contains route.prefix ip && beq (is_inside_mapped route.prefix) (not (is_v6 ip))

-- the route of a destination: the one of its family with the longest prefix that contains it
unfoldable pub longest_route : List Route → Ip → Option Route
longest_route routes ip = best_by is_longer_route (filter (serves ip) routes)

abbrev pub route_of : SelectionInput → Ip → Option Route
route_of input ip = longest_route input.routes ip

-- link-local scope: such addresses are reachable only on their link
abbrev pub link_scope : ℕ
link_scope = 2

-- a source that may be used over this route: one of the destination's family on any interface, since all interfaces
-- count as one site (RFC 6724 section 4 recommends those of the outgoing interface); for a link-local destination
-- only one on the route's interface, which counts as the link
abbrev pub is_candidate : Route → Ip → Source → Bool
is_candidate route ip source =
    beq (is_v6 source.ip) (is_v6 ip) && (not (scope_of ip == link_scope) || source.interface == route.interface)

-- the candidate set of a destination (RFC 6724 section 4); empty if there is no route
unfoldable pub candidates : SelectionInput → Ip → List Source
candidates input ip = option_map_or (λ route. filter (is_candidate route ip) input.sources) (route_of input ip) []

-- Rule 1: prefer same address
abbrev pub prefers_same_address : Ip → Rule Source
prefers_same_address ip = yes_first (λ source. same_ip source.ip ip)

-- Rule 2: prefer appropriate scope. Of two scopes the smaller is preferred, unless it is smaller than the
-- destination's; then the larger
abbrev pub by_appropriate_scope : ℕ → Rule ℕ
by_appropriate_scope scope a b =
    cond (nat_lt a b) (cond (nat_lt a scope) Greater Less)
    (cond (nat_lt b a) (cond (nat_lt b scope) Less Greater) Equal)

abbrev pub prefers_appropriate_scope : Ip → Rule Source
prefers_appropriate_scope ip a b = by_appropriate_scope (scope_of ip) (scope_of a.ip) (scope_of b.ip)

-- Rule 3: avoid deprecated addresses
abbrev pub avoids_deprecated : Rule Source
avoids_deprecated = yes_first (λ source. not source.deprecated)

-- Rule 4, prefer home addresses, never decides: there are no home addresses here

-- Rule 5: prefer outgoing interface
abbrev pub prefers_outgoing_interface : SelectionInput → Ip → Rule Source
prefers_outgoing_interface input ip =
    yes_first (λ source. option_map_or (λ route. source.interface == route.interface) (route_of input ip) false)

-- Rule 5.5, prefer addresses in a prefix advertised by the next hop, is left out: a host doesn't report such prefixes

-- Rule 6: prefer matching label
abbrev pub prefers_matching_label : SelectionInput → Ip → Rule Source
prefers_matching_label input ip = yes_first (λ source. label_of input.rows source.ip == label_of input.rows ip)

-- Rule 7: prefer temporary addresses
abbrev pub prefers_temporary : Rule Source
prefers_temporary = yes_first (λ source. source.temporary)

-- Rule 8: use longest matching prefix
abbrev pub prefers_longest_match : Ip → Rule Source
prefers_longest_match ip = higher_first (λ source. common_of source.ip source.plen ip)

-- the rules of source selection (RFC 6724 section 5), used for both families
unfoldable pub source_rules : SelectionInput → Ip → List (Rule Source)
source_rules input ip =
    prefers_same_address ip
    ∷ prefers_appropriate_scope ip
    ∷ avoids_deprecated
    ∷ prefers_outgoing_interface input ip
    ∷ prefers_matching_label input ip
    ∷ prefers_temporary
    ∷ prefers_longest_match ip
    ∷ []

-- one source is better than another for a destination: the first rule that decides prefers it
abbrev pub is_better : SelectionInput → Ip → Source → Source → Bool
is_better input ip a b = is_lt (first_of (source_rules input ip) a b)

-- Source(D): the candidate that no candidate is better than, of several the one given first; None if there is no
-- candidate
unfoldable pub source_of : SelectionInput → Ip → Option Source
source_of input ip = best_by (is_better input ip) (candidates input ip)

-- an address is reachable if it has a route and a candidate
abbrev pub is_reachable : SelectionInput → Ip → Bool
is_reachable input ip = is_some (source_of input ip)
