-- Lines of one family change nothing of how addresses of the other are reached, nor of their order.
use Rattle.std.proofs.Common.{◌≡◌, ℕ, ◌+◌, ◌==◌, ◌&&◌, ◌||◌, ◌++◌, Bool, true, false, not, List, [], ◌∷◌, filter, length, map, refl, sym, ◌∙◌, ap}
use Rattle.std.specs.Prelude.{None, Option, Some, cond, count_by, filter_map, find, is_some}
use Rattle.std.specs.Bool.{beq}
use Rattle.std.specs.List.{cons_option, list_all, range_with_len}
use Rattle.std.specs.Option.{option_map_or}
use Rattle.std.specs.declared.cmp.Ordering.TheVariants.{Equal}
use Rattle.std.specs.Ordering.{bool_cmp, is_lt, nat_cmp}
use Rattle.std.proofs.lemmas.List.{append-nil}
use Rattle.std.proofs.lemmas.List.Elements.{filter-append}
use Rattle.he_addr.specs.declared.ip.Family.{Family}
use Rattle.he_addr.specs.declared.ip.Family.TheVariants as families
use Rattle.he_addr.specs.declared.ip.Ip.{Ip}
use Rattle.he_addr.specs.Ip.{is_v6, scope_of}
use Rattle.he_addr.specs.Prefix.{common_of, contains, is_inside_mapped}
use Rattle.he_select.specs.declared.host.Route.{Route}
use Rattle.he_select.specs.declared.host.Source.{Source}
use Rattle.he_select.specs.declared.known.Known.{Known}
use Rattle.he_select.specs.declared.policy.Row.{Row}
use Rattle.he_select.specs.HostFaults.{is_sound_route, is_sound_source}
use Rattle.he_select.specs.Hosts.{HostLists}
use Rattle.he_select.specs.Preference.{Member, destination_rules, leaves_unchanged, member_at, members_from, order_of, prefers, prefers_higher_precedence, prefers_lower_rtt, prefers_smaller_scope, prefers_used}
use Rattle.he_select.specs.Rules.{best_by, first_of, yes_first}
use Rattle.he_select.specs.Selection.{SelectionInput, avoids_deprecated, candidates, is_candidate, is_longer_route, known_input, link_scope, longest_route, prefers_appropriate_scope, prefers_longest_match, prefers_same_address, prefers_temporary, route_of, serves, source_of, source_rules}
use Rattle.he_select.specs.Tables.{label_of}
use Rattle.he_select.proofs.Arranged.{count-same}
use Rattle.he_select.proofs.Counting.{Each}
use Rattle.he_timeline.specs.Timeline.{is_of}
use Rattle.he_timeline.proofs.Bools.{and_left, and_right}
use Rattle.he_turns.specs.Heard.{is_route_of, is_source_of}

find_each : {X : Type 0} (p q : X → Bool) (xs : List X) → Each (λ x. p x ≡ q x) xs → find p xs ≡ find q xs
find_each p q [] each = refl
find_each p q (x ∷ xs) each = ap (λ b. cond b (Some x) (find p xs)) each.0 ∙ ap (λ o. cond (q x) (Some x) o) (find_each p q xs each.1)

found_each : {X Y : Type 0} (f g : X → Option Y) → ((x : X) → f x ≡ g x) → (xs : List X) → filter_map f xs ≡ filter_map g xs
found_each f g e [] = refl
found_each f g e (x ∷ xs) = ap (λ o. cons_option o (filter_map f xs)) (e x) ∙ ap (λ l. cons_option (g x) l) (found_each f g e xs)

-- addresses between which the rules prefer alike stand in one order
module _ (this that : SelectionInput) (P : Ip → Type 0) (alike : (a b : Member) → P a.ip → P b.ip → prefers this a b ≡ prefers that a b) where
  each_member : (place : ℕ) (ips : List Ip) → Each P ips → Each (λ (m : Member). P m.ip) (members_from place ips)
  each_member place [] each = tt
  each_member place (ip ∷ ips) each = (each.0, each_member (place + 1) ips each.1)

  each_preferred : (members : List Member) → Each (λ (m : Member). P m.ip) members → (m : Member) → P m.ip → Each (λ (o : Member). prefers this o m ≡ prefers that o m) members
  each_preferred [] each m by_m = tt
  each_preferred (o ∷ more) each m by_m = (alike o m each.0 by_m, each_preferred more each.1 m by_m)

  each_counted : (members some : List Member) → Each (λ (m : Member). P m.ip) members → Each (λ (m : Member). P m.ip) some → (n : ℕ)
      → Each (λ (m : Member). (count_by (λ o. prefers this o m) members == n) ≡ (count_by (λ o. prefers that o m) members == n)) some
  each_counted members [] each also n = tt
  each_counted members (m ∷ more) each also n =
      (ap (λ c. c == n) (count-same (λ o. prefers this o m) (λ o. prefers that o m) members (each_preferred members each m also.0)), each_counted members more each also.1 n)

  order_alike : (ips : List Ip) → Each P ips → order_of this ips ≡ order_of that ips
  unfolding order_of
  order_alike ips each =
      let members : List Member = members_from 0 ips in
      let all = each_member 0 ips each in
      ap (map (λ (m : Member). m.ip)) (found_each (member_at this members) (member_at that members) (λ n.
      find_each (λ m. count_by (λ o. prefers this o m) members == n) (λ m. count_by (λ o. prefers that o m) members == n) members (each_counted members members all all n)) (range_with_len 0 (length ips)))

-- a route of one family serves no address of the other
not_served : (family : Family) (route : Route) (ip : Ip) → is_route_of family route ≡ true → is_of family ip ≡ false → serves ip route ≡ false
not_served families.V6 route ip own away = by_flags (contains route.prefix ip) (is_inside_mapped route.prefix) (is_v6 ip) (and_right (is_sound_route route) _ own) away
  where
    by_flags : (a b c : Bool) → not b ≡ true → c ≡ false → (a && beq b (not c)) ≡ false
    by_flags true true c h k = cc
    by_flags true false true h k = cc
    by_flags true false false h k = refl
    by_flags false b c h k = refl
not_served families.V4 route ip own away = by_flags (contains route.prefix ip) (is_inside_mapped route.prefix) (is_v6 ip) (and_right (is_sound_route route) _ own) away
  where
    by_flags : (a b c : Bool) → b ≡ true → not c ≡ false → (a && beq b (not c)) ≡ false
    by_flags true false c h k = cc
    by_flags true true false h k = cc
    by_flags true true true h k = refl
    by_flags false b c h k = refl

-- a source of one family is no candidate for an address of the other
not_candidate : (family : Family) (route : Route) (source : Source) (ip : Ip) → is_source_of family source ≡ true → is_of family ip ≡ false → is_candidate route ip source ≡ false
not_candidate families.V6 route source ip own away = by_flags (is_v6 source.ip) (is_v6 ip) (not (scope_of ip == link_scope) || source.interface == route.interface) (and_right (is_sound_source source) _ own) away
  where
    by_flags : (b c d : Bool) → b ≡ true → c ≡ false → (beq b c && d) ≡ false
    by_flags false c d h k = cc
    by_flags true true d h k = cc
    by_flags true false d h k = refl
not_candidate families.V4 route source ip own away = by_flags (is_v6 source.ip) (is_v6 ip) (not (scope_of ip == link_scope) || source.interface == route.interface) (and_right (is_sound_source source) _ own) away
  where
    by_flags : (b c d : Bool) → not b ≡ true → not c ≡ false → (beq b c && d) ≡ false
    by_flags true c d h k = cc
    by_flags false false d h k = cc
    by_flags false true d h k = refl

none_pass : {X : Type 0} (p q : X → Bool) → ((x : X) → p x ≡ true → q x ≡ false) → (xs : List X) → list_all p xs ≡ true → filter q xs ≡ []
none_pass p q fails [] h = refl
none_pass p q fails (x ∷ xs) h = rw (fails x (and_left (p x) _ h)) (none_pass p q fails xs (and_right (p x) _ h))

module _ (rows : List Row) (known : List Known) (family : Family) (host : HostLists) (sources : List Source) (routes : List Route) (own_sources : list_all (is_source_of family) sources ≡ true) (own_routes : list_all (is_route_of family) routes ≡ true) where
  abbrev wider : HostLists
  wider = record { sources = host.sources ++ sources; routes = host.routes ++ routes }

  abbrev this : SelectionInput
  this = known_input rows host known

  abbrev that : SelectionInput
  that = known_input rows wider known

  route_same : (ip : Ip) → is_of family ip ≡ false → route_of this ip ≡ route_of that ip
  unfolding longest_route
  route_same ip away =
      let none : filter (serves ip) routes ≡ [] = none_pass (is_route_of family) (serves ip) (λ route own. not_served family route ip own away) routes own_routes in
      let all : filter (serves ip) (host.routes ++ routes) ≡ filter (serves ip) host.routes =
      filter-append (serves ip) host.routes routes ∙ ap (λ (more : List Route). filter (serves ip) host.routes ++ more) none ∙ append-nil (filter (serves ip) host.routes) in
      sym (ap (best_by is_longer_route) all)

  candidates_over : (ip : Ip) → is_of family ip ≡ false → (route : Option Route) → option_map_or (λ r. filter (is_candidate r ip) host.sources) route [] ≡ option_map_or (λ r. filter (is_candidate r ip) (host.sources ++ sources)) route []
  candidates_over ip away None = refl
  candidates_over ip away (Some route) =
      let none : filter (is_candidate route ip) sources ≡ [] = none_pass (is_source_of family) (is_candidate route ip) (λ source own. not_candidate family route source ip own away) sources own_sources in
      sym (filter-append (is_candidate route ip) host.sources sources ∙ ap (λ (more : List Source). filter (is_candidate route ip) host.sources ++ more) none ∙ append-nil (filter (is_candidate route ip) host.sources))

  source_same : (ip : Ip) → is_of family ip ≡ false → source_of this ip ≡ source_of that ip
  unfolding source_of candidates source_rules
  source_same ip away =
      let chosen : Option Route → List Source → Option Source = λ route some.
      best_by (λ a b. is_lt (first_of (prefers_same_address ip ∷ prefers_appropriate_scope ip ∷ avoids_deprecated ∷ yes_first (λ source. option_map_or (λ r. source.interface == r.interface) route false)
      ∷ yes_first (λ source. label_of rows source.ip == label_of rows ip) ∷ prefers_temporary ∷ prefers_longest_match ip ∷ []) a b)) some in
      let over : Option Route → List Source = λ route. option_map_or (λ r. filter (is_candidate r ip) (host.sources ++ sources)) route [] in
      ap (chosen (route_of this ip)) (candidates_over ip away (route_of this ip)) ∙ ap (λ (route : Option Route). chosen route (over route)) (route_same ip away)

  -- an address of the other family
  abbrev IsAway : Ip → Type 0
  IsAway ip = is_of family ip ≡ false

  abbrev has_scope : Option Source → Ip → Bool
  has_scope source ip = option_map_or (λ s. scope_of s.ip == scope_of ip) source false

  abbrev is_current : Option Source → Bool
  is_current source = option_map_or (λ s. not s.deprecated) source false

  abbrev has_label : Option Source → Ip → Bool
  has_label source ip = option_map_or (λ s. label_of rows s.ip == label_of rows ip) source false

  abbrev common : Option Source → Ip → ℕ
  common source ip = option_map_or (λ s. common_of s.ip s.plen ip) source 0

  abbrev is_direct : Option Route → Bool
  is_direct route = option_map_or (λ r. not r.tunnel) route true

  -- which of two is preferred, by their sources and their routes
  decided : Member → Member → Option Source → Option Source → Option Route → Option Route → Bool
  decided a b s t r q =
      is_lt (first_of ((λ a b. bool_cmp (is_some t) (is_some s))
      ∷ (λ a b. cond (is_some s && is_some t) (bool_cmp (has_scope t b.ip) (has_scope s a.ip)) Equal)
      ∷ (λ a b. cond (is_some s && is_some t) (bool_cmp (is_current t) (is_current s)) Equal)
      ∷ (λ a b. cond (is_some s && is_some t) (bool_cmp (has_label t b.ip) (has_label s a.ip)) Equal)
      ∷ prefers_higher_precedence this
      ∷ (λ a b. bool_cmp (is_direct q) (is_direct r))
      ∷ prefers_smaller_scope ∷ prefers_lower_rtt this ∷ prefers_used this
      ∷ (λ a b. cond (beq (is_v6 a.ip) (is_v6 b.ip)) (cond (is_some s && is_some t) (nat_cmp (common t b.ip) (common s a.ip)) Equal) Equal)
      ∷ leaves_unchanged ∷ []) a b)

  this_decides : (a b : Member) → prefers this a b ≡ decided a b (source_of this a.ip) (source_of this b.ip) (route_of this a.ip) (route_of this b.ip)
  unfolding destination_rules decided
  this_decides a b = refl

  that_decides : (a b : Member) → prefers that a b ≡ decided a b (source_of that a.ip) (source_of that b.ip) (route_of that a.ip) (route_of that b.ip)
  unfolding destination_rules decided
  that_decides a b = refl

  preferred_same : (a b : Member) → IsAway a.ip → IsAway b.ip → prefers this a b ≡ prefers that a b
  preferred_same a b by_a by_b =
      this_decides a b
      ∙ ap (λ (s : Option Source). decided a b s (source_of this b.ip) (route_of this a.ip) (route_of this b.ip)) (source_same a.ip by_a)
      ∙ ap (λ (t : Option Source). decided a b (source_of that a.ip) t (route_of this a.ip) (route_of this b.ip)) (source_same b.ip by_b)
      ∙ ap (λ (r : Option Route). decided a b (source_of that a.ip) (source_of that b.ip) r (route_of this b.ip)) (route_same a.ip by_a)
      ∙ ap (λ (q : Option Route). decided a b (source_of that a.ip) (source_of that b.ip) (route_of that a.ip) q) (route_same b.ip by_b)
      ∙ sym (that_decides a b)

  -- addresses of the other family stand in the order in which they stood
  pub order-wider : (ips : List Ip) → Each IsAway ips → order_of this ips ≡ order_of that ips
  order-wider ips away = order_alike this that IsAway preferred_same ips away
