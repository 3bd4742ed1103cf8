-- The order looks at what is known of its own addresses alone.
use Rattle.std.proofs.Common.{◌≡◌, ℕ, ◌+◌, ◌==◌, Bool, List, [], ◌∷◌, map, refl, ◌∙◌, ap, subst, slice_get}
use Rattle.std.specs.Prelude.{Option, Some, count_by, find, cond, filter_map, length, option_map}
use Rattle.std.specs.List.{cons_option, range_with_len}
use Rattle.std.specs.declared.cmp.Ordering.{Ordering}
use Rattle.std.specs.Ordering.{bool_cmp, is_lt, nat_cmp}
use Rattle.he_addr.specs.declared.ip.Ip.{Ip}
use Rattle.he_select.specs.declared.known.Known.{Known}
use Rattle.he_select.specs.declared.policy.Row.{Row}
use Rattle.he_select.specs.Hosts.{HostLists}
use Rattle.he_select.specs.LabelledRules.{labelled_of}
use Rattle.he_select.specs.Preference.{IsOrder, Member, avoids_deprecated_source, avoids_unreachable, destination_rules, leaves_unchanged, member_at, members_from, order_of, prefers, prefers_higher_precedence, prefers_longest_match, prefers_matching_label, prefers_matching_scope, prefers_native_transport, prefers_smaller_scope}
use Rattle.he_select.specs.Rules.{first_of}
use Rattle.he_select.specs.Selection.{SelectionInput, candidates, known_input, known_rtt, known_used, nothing_known, route_of, rtt_or_unknown, selection_input, source_of, source_rules}
use Rattle.he_select.specs.Attributes.{attributes_of}
use Rattle.he_select.proofs.Arranged.{count-same}
use Rattle.he_select.proofs.Counting.{Each, each_at}
use Rattle.he_select.proofs.KnownLists.{nothing_told, attributes_knowing, untold_rtt, untold_used}

find-each : {X : Type 0} (p q : X → Bool) (xs : List X) → Each (λ x. p x ≡ q x) xs → find p xs ≡ find q xs
find-each p q [] each = refl
find-each p q (x ∷ xs) each = ap (λ b. cond b (Some x) (find p xs)) each.0 ∙ ap (λ o. cond (q x) (Some x) o) (find-each p q xs each.1)

found-each : {X Y : Type 0} (f g : X → Option Y) → ((x : X) → f x ≡ g x) → (xs : List X) → filter_map f xs ≡ filter_map g xs
found-each f g e [] = refl
found-each f g e (x ∷ xs) = ap (λ o. cons_option o (filter_map f xs)) (e x) ∙ ap (λ l. cons_option (g x) l) (found-each f g e xs)

module _ (rows : List Row) (host : HostLists) (known other : List Known) where
  abbrev this : SelectionInput
  this = known_input rows host known

  abbrev that : SelectionInput
  that = known_input rows host other

  -- both lists tell the same of an address
  abbrev pub Alike : Ip → Type 0
  Alike ip = (known_rtt known ip ≡ known_rtt other ip) × (known_used known ip ≡ known_used other ip)

  preferred_alike : (a b : Member) → Alike a.ip → Alike b.ip → prefers this a b ≡ prefers that a b
  unfolding destination_rules source_of candidates source_rules
  preferred_alike a b by_a by_b =
      let first : Option ℕ → Option ℕ → Bool → Bool → Ordering = λ m n p q.
      first_of (avoids_unreachable this ∷ prefers_matching_scope this ∷ avoids_deprecated_source this ∷ prefers_matching_label this ∷ prefers_higher_precedence this ∷ prefers_native_transport this ∷ prefers_smaller_scope
      ∷ (λ a b. nat_cmp (rtt_or_unknown m) (rtt_or_unknown n)) ∷ (λ a b. bool_cmp q p) ∷ prefers_longest_match this ∷ leaves_unchanged ∷ []) a b in
      ap (λ m. is_lt (first m (known_rtt known b.ip) (known_used known a.ip) (known_used known b.ip))) by_a.0
      ∙ ap (λ n. is_lt (first (known_rtt other a.ip) n (known_used known a.ip) (known_used known b.ip))) by_b.0
      ∙ ap (λ p. is_lt (first (known_rtt other a.ip) (known_rtt other b.ip) p (known_used known b.ip))) by_a.1
      ∙ ap (λ q. is_lt (first (known_rtt other a.ip) (known_rtt other b.ip) (known_used other a.ip) q)) by_b.1

  pub attributes_alike : (ip : Ip) → Alike ip → attributes_of this ip ≡ attributes_of that ip
  unfolding source_of candidates source_rules
  attributes_alike ip alike = attributes_knowing rows (route_of this ip) (option_map (labelled_of rows) (source_of this ip)) known other ip alike.0 alike.1

  pub all_attributes_alike : (ips : List Ip) → Each Alike ips → map (attributes_of this) ips ≡ map (attributes_of that) ips
  all_attributes_alike [] each = refl
  all_attributes_alike (ip ∷ ips) each = ap (λ s. s ∷ map (attributes_of this) ips) (attributes_alike ip each.0) ∙ ap (λ l. attributes_of that ip ∷ l) (all_attributes_alike ips each.1)

  members_alike : (place : ℕ) (ips : List Ip) → Each Alike ips → Each (λ (m : Member). Alike m.ip) (members_from place ips)
  members_alike place [] each = tt
  members_alike place (ip ∷ ips) each = (each.0, members_alike (place + 1) ips each.1)

  each_preferred : (members : List Member) → Each (λ (m : Member). Alike m.ip) members → (m : Member) → Alike m.ip → Each (λ (o : Member). prefers this o m ≡ prefers that o m) members
  each_preferred [] each m by_m = tt
  each_preferred (o ∷ more) each m by_m = (preferred_alike o m each.0 by_m, each_preferred more each.1 m by_m)

  counted_alike : (members : List Member) → Each (λ (m : Member). Alike m.ip) members → (m : Member) → Alike m.ip → count_by (λ o. prefers this o m) members ≡ count_by (λ o. prefers that o m) members
  counted_alike members each m by_m = count-same (λ o. prefers this o m) (λ o. prefers that o m) members (each_preferred members each m by_m)

  each_counted : (members some : List Member) → Each (λ (m : Member). Alike m.ip) members → Each (λ (m : Member). Alike m.ip) some → (n : ℕ)
      → Each (λ (m : Member). (count_by (λ o. prefers this o m) members == n) ≡ (count_by (λ o. prefers that o m) members == n)) some
  each_counted members [] each also n = tt
  each_counted members (m ∷ more) each also n = (ap (λ c. c == n) (counted_alike members each m also.0), each_counted members more each also.1 n)

  pub order_of_alike : (ips : List Ip) → Each Alike ips → order_of this ips ≡ order_of that ips
  unfolding order_of
  order_of_alike ips each =
      let members : List Member = members_from 0 ips in
      let alike = members_alike 0 ips each in
      ap (map (λ (m : Member). m.ip)) (found-each (member_at this members) (member_at that members) (λ n.
      find-each (λ m. count_by (λ o. prefers this o m) members == n) (λ m. count_by (λ o. prefers that o m) members == n) members (each_counted members members alike alike n)) (range_with_len 0 (length ips)))

  pub is_order_alike : (ips result : List Ip) → Each Alike ips → IsOrder this ips result → IsOrder that ips result
  is_order_alike ips result each order = record {
    members = order.members;
    places = λ n ip at.
        let m : Member = record { ip = ip; place = n } in
        subst (λ c. slice_get result c ≡ Some ip) (counted_alike (members_from 0 ips) (members_alike 0 ips each) m (each_at Alike ips each n ip at)) (order.places n ip at);
  }

-- addresses of which nothing is known
nothing_alike : (rows : List Row) (host : HostLists) (all ips : List Ip) → Each (Alike rows host (map nothing_known all) []) ips
nothing_alike rows host all [] = tt
nothing_alike rows host all (ip ∷ ips) =
    ((untold_rtt (map nothing_known all) ip (nothing_told all), untold_used (map nothing_known all) ip (nothing_told all)), nothing_alike rows host all ips)

pub nothing_order_of : (rows : List Row) (host : HostLists) (ips : List Ip) → order_of (known_input rows host (map nothing_known ips)) ips ≡ order_of (selection_input rows host) ips
nothing_order_of rows host ips = order_of_alike rows host (map nothing_known ips) [] ips (nothing_alike rows host ips ips)

pub nothing_is_order : (rows : List Row) (host : HostLists) (ips result : List Ip) → IsOrder (known_input rows host (map nothing_known ips)) ips result → IsOrder (selection_input rows host) ips result
nothing_is_order rows host ips result = is_order_alike rows host (map nothing_known ips) [] ips result (nothing_alike rows host ips ips)
