-- The preference between two destinations (RFC 6724 section 6, RFC 8305 section 4), and a list in this order.
use Rattle.std.specs.Prelude.{ℕ, ◌+◌, ◌≡◌, ◌==◌, Bool, true, false, not, cond, List, [], ◌∷◌, length, map, slice_get, count_by, find, filter_map, Option, Some, IsPermutation}
use Rattle.std.specs.Bool.{beq}
use Rattle.std.specs.List.{range_with_len}
use Rattle.std.specs.Option.{option_map_or}
use Rattle.std.specs.declared.cmp.Ordering.TheVariants.{Equal}
use Rattle.std.specs.Ordering.{is_lt}
use Rattle.he_addr.specs.declared.ip.Ip.{Ip}
use Rattle.he_addr.specs.Ip.{is_v6, scope_of}
use Rattle.he_addr.specs.Prefix.{common_of}
use Rattle.he_select.specs.Rules.{Rule, yes_first, lower_first, higher_first, where_both, first_of}
use Rattle.he_select.specs.Tables.{precedence_of, label_of}
use Rattle.he_select.specs.Selection.{SelectionInput, route_of, source_of, is_reachable, known_rtt, known_used, rtt_or_unknown}

-- a destination and its place in the list
pub record Member : Type 0 where
  pub ip : Ip
  pub place : ℕ

-- the members of a list, counted from `place`
abbrev pub members_from : ℕ → List Ip → List Member
members_from place [] = []
members_from place (ip ∷ ips) = record { ip = ip; place = place } ∷ members_from (place + 1) ips

-- Scope(D) = Scope(Source(D))
abbrev pub has_like_scope : SelectionInput → Ip → Bool
has_like_scope input ip = option_map_or (λ source. scope_of source.ip == scope_of ip) (source_of input ip) false

-- Source(D) is not deprecated
abbrev pub has_current_source : SelectionInput → Ip → Bool
has_current_source input ip = option_map_or (λ source. not source.deprecated) (source_of input ip) false

-- Label(Source(D)) = Label(D)
abbrev pub has_like_label : SelectionInput → Ip → Bool
has_like_label input ip =
    option_map_or (λ source. label_of input.rows source.ip == label_of input.rows ip) (source_of input ip) false

-- the common prefix length of Source(D) and D, 0 without a source
abbrev pub common_with_source : SelectionInput → Ip → ℕ
common_with_source input ip = option_map_or (λ source. common_of source.ip source.plen ip) (source_of input ip) 0

-- reached without encapsulation; an address without a route counts as native
abbrev pub is_native : SelectionInput → Ip → Bool
is_native input ip = option_map_or (λ route. not route.tunnel) (route_of input ip) true

-- applies the rule only if both addresses have a source
abbrev pub by_sources : SelectionInput → Rule Member → Rule Member
by_sources input = where_both (λ m. is_reachable input m.ip)

abbrev pub in_one_family : Rule Member → Rule Member
in_one_family rule a b = cond (beq (is_v6 a.ip) (is_v6 b.ip)) (rule a b) Equal

-- Rule 1: avoid unusable destinations
abbrev pub avoids_unreachable : SelectionInput → Rule Member
avoids_unreachable input = yes_first (λ m. is_reachable input m.ip)

-- Rule 2: prefer matching scope
abbrev pub prefers_matching_scope : SelectionInput → Rule Member
prefers_matching_scope input = by_sources input (yes_first (λ m. has_like_scope input m.ip))

-- Rule 3: avoid deprecated addresses
abbrev pub avoids_deprecated_source : SelectionInput → Rule Member
avoids_deprecated_source input = by_sources input (yes_first (λ m. has_current_source input m.ip))

-- Rule 4, prefer home addresses, never decides: there are no home addresses here

-- Rule 5: prefer matching label
abbrev pub prefers_matching_label : SelectionInput → Rule Member
prefers_matching_label input = by_sources input (yes_first (λ m. has_like_label input m.ip))

-- Rule 6: prefer higher precedence
abbrev pub prefers_higher_precedence : SelectionInput → Rule Member
prefers_higher_precedence input = higher_first (λ m. precedence_of input.rows m.ip)

-- Rule 7: prefer native transport
abbrev pub prefers_native_transport : SelectionInput → Rule Member
prefers_native_transport input = yes_first (λ m. is_native input m.ip)

-- Rule 8: prefer smaller scope
abbrev pub prefers_smaller_scope : Rule Member
prefers_smaller_scope = lower_first (λ m. scope_of m.ip)

-- Rule 8a (RFC 8305 section 4): prefer the lower known round trip time
abbrev pub prefers_lower_rtt : SelectionInput → Rule Member
prefers_lower_rtt input = lower_first (λ m. rtt_or_unknown (known_rtt input.known m.ip))

-- Rule 8b (RFC 8305 section 4): prefer the address used before
abbrev pub prefers_used : SelectionInput → Rule Member
prefers_used input = yes_first (λ m. known_used input.known m.ip)

-- Rule 9: use longest matching prefix. Only within one family
abbrev pub prefers_longest_match : SelectionInput → Rule Member
prefers_longest_match input = in_one_family (by_sources input (higher_first (λ m. common_with_source input m.ip)))

-- Rule 10: otherwise, leave the order unchanged
abbrev pub leaves_unchanged : Rule Member
leaves_unchanged = lower_first (λ m. m.place)

-- the rules of destination ordering (RFC 6724 section 6, with the two that RFC 8305 section 4 adds)
unfoldable pub destination_rules : SelectionInput → List (Rule Member)
destination_rules input =
    avoids_unreachable input
    ∷ prefers_matching_scope input
    ∷ avoids_deprecated_source input
    ∷ prefers_matching_label input
    ∷ prefers_higher_precedence input
    ∷ prefers_native_transport input
    ∷ prefers_smaller_scope
    ∷ prefers_lower_rtt input
    ∷ prefers_used input
    ∷ prefers_longest_match input
    ∷ leaves_unchanged
    ∷ []

-- one member is preferred to another: the first rule that decides prefers it
abbrev pub prefers : SelectionInput → Member → Member → Bool
prefers input a b = is_lt (first_of (destination_rules input) a b)

-- the result has the members of the list, each at the place that equals the number of members preferred to it
pub record IsOrder (input : SelectionInput) (list result : List Ip) : Type 0 where
  pub members : IsPermutation list result
  pub places : (n : ℕ) (ip : Ip) → slice_get list n ≡ Some ip
      → slice_get result
      (count_by (λ other. prefers input other (record { ip = ip; place = n })) (members_from 0 list)) ≡ Some ip

-- the member to which exactly n members are preferred
abbrev pub member_at : SelectionInput → List Member → ℕ → Option Member
member_at input members n = find (λ member. count_by (λ other. prefers input other member) members == n) members

-- the addresses in the order in which to try them: at each place, the one to which as many addresses are preferred as
-- there are places before it
unfoldable pub order_of : SelectionInput → List Ip → List Ip
order_of input ips =
    map (λ member. member.ip) (filter_map (member_at input (members_from 0 ips)) (range_with_len 0 (length ips)))
