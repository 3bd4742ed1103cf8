-- The lists from which attempts take their addresses are parts of the sorted ones, interlaced.
use Rattle.std.proofs.Common.{◌≡◌, ℕ, ◌≤◌, ◌++◌, Bool, false, List, [], ◌∷◌, filter, map, Option, Some, None, refl, sym, ◌∙◌, ap, subst}
use Rattle.std.specs.Prelude.{All}
use Rattle.std.specs.List.{count_by}
use Rattle.he_addr.specs.Ip.{InRange, same_ip}
use Rattle.he_addr.specs.declared.ip.Ip.{Ip}
use Rattle.he_plan.specs.Alternating.{interlace}
use Rattle.he_plan.specs.Attempts.{order, order_at, received, received_of}
use Rattle.he_plan.specs.Planning.{interlaced_list, is_of_included, is_received, part_of, parts_of}
use Rattle.he_timeline.specs.Race.{Race, Reply, addresses_of, race_input, usable_addresses}
use Rattle.he_timeline.specs.Timeline.{IsRace}
use Rattle.he_plan.proofs.Distinct.{order_once}
use Rattle.he_plan.proofs.Listed.{list_kept, moved_parts}
use Rattle.he_select.specs.declared.attributes.DestinationAttributes.{DestinationAttributes}
use Rattle.he_select.specs.Preference.{order_of}
use Rattle.he_select.specs.Selection.{SelectionInput}
use Rattle.he_select.specs.Attributes.{attributes_of}
use Rattle.he_course.specs.Addresses.{all_attributes_of}

addresses_kept : (input : SelectionInput) (ips : List Ip) → map (λ (attributes : DestinationAttributes). attributes.ip) (map (attributes_of input) ips) ≡ ips
addresses_kept input [] = refl
addresses_kept input (ip ∷ ips) = ap (λ (rest : List Ip). ip ∷ rest) (addresses_kept input ips)

-- the addresses of what the rules look at
pub sorted_addresses_are : (race : Race) (sorted : List DestinationAttributes) → sorted ≡ all_attributes_of race → map (λ (attributes : DestinationAttributes). attributes.ip) sorted ≡ order race (usable_addresses race)
unfolding all_attributes_of
sorted_addresses_are race sorted is =
    ap (λ (l : List DestinationAttributes). map (λ (attributes : DestinationAttributes). attributes.ip) l) is
    ∙ addresses_kept (race_input race) (order race (usable_addresses race))

-- the interlaced list of some answers
list_from : (race : Race) → IsRace race → All InRange (addresses_of race.aaaa) → All InRange (addresses_of race.a) → (v6 v4 : Bool) (sorted : List DestinationAttributes) → sorted ≡ all_attributes_of race
    → interlace (filter (is_of_included v6 v4) (map (λ (attributes : DestinationAttributes). attributes.ip) sorted)) race.settings.count ≡ interlaced_list race v6 v4
list_from race r six four v6 v4 sorted is =
    list_kept race r six four v6 v4 (map (λ (attributes : DestinationAttributes). attributes.ip) sorted) (sorted_addresses_are race sorted is)

-- as it is made
pub list_from_with : (race : Race) → IsRace race → All InRange (addresses_of race.aaaa) → All InRange (addresses_of race.a) → (v6 v4 : Bool) (sorted : List DestinationAttributes) (ips : List Ip) (count : ℕ) → sorted ≡ all_attributes_of race
    → ips ≡ filter (is_of_included v6 v4) (map (λ (attributes : DestinationAttributes). attributes.ip) sorted) → count ≡ race.settings.count → interlace ips count ≡ interlaced_list race v6 v4
list_from_with race r six four v6 v4 sorted ips count is of_ips of_count =
    ap (λ (n : ℕ). interlace ips n) of_count ∙ ap (λ (l : List Ip). interlace l race.settings.count) of_ips
    ∙ list_from race r six four v6 v4 sorted is

part_is : (race : Race) (t : ℕ) (reply : Option Reply) → received_of race t reply ≡ part_of (is_received race t reply) reply
part_is race t None = refl
part_is race t (Some reply) = refl

-- the one of the answers that are seen by a tick
pub list_at : (race : Race) (t : ℕ) (v6 v4 : Bool) → v6 ≡ is_received race t race.aaaa → v4 ≡ is_received race t race.a → interlaced_list race v6 v4 ≡ order_at race t
list_at race t v6 v4 six four =
    let received_parts : parts_of race v6 v4 ≡ received race t =
    ap (λ (xs : List Ip). xs ++ part_of v4 race.a) (ap (λ (b : Bool). part_of b race.aaaa) six ∙ sym (part_is race t race.aaaa))
    ∙ ap (λ (ys : List Ip). received_of race t race.aaaa ++ ys) (ap (λ (b : Bool). part_of b race.a) four ∙ sym (part_is race t race.a))
    in
    ap (λ (ips : List Ip). interlace (order race ips) race.settings.count) received_parts

no_part : (reply : Option Reply) → part_of false reply ≡ []
no_part None = refl
no_part (Some reply) = refl

none_in_order : (input : SelectionInput) → order_of input [] ≡ []
unfolding order_of
none_in_order input = refl

no_list : (race : Race) → [] ≡ interlaced_list race false false
no_list race =
    let none : parts_of race false false ≡ [] =
    ap (λ (xs : List Ip). xs ++ part_of false race.a) (no_part race.aaaa) ∙ no_part race.a
    in
    sym (ap (λ (ips : List Ip). interlace (order race ips) race.settings.count) none
    ∙ ap (λ (ips : List Ip). interlace ips race.settings.count) (none_in_order (race_input race)))

-- the one of no answer
pub first_list : (race : Race) (v6 v4 : Bool) (ips : List Ip) → v6 ≡ false → v4 ≡ false → ips ≡ [] → ips ≡ interlaced_list race v6 v4
first_list race v6 v4 ips six four none =
    none ∙ no_list race ∙ ap (λ (b : Bool). interlaced_list race b false) (sym six) ∙ ap (λ (b : Bool). interlaced_list race v6 b) (sym four)

-- no address stands twice in it
pub listed_once : (race : Race) → IsRace race → All InRange (addresses_of race.aaaa) → All InRange (addresses_of race.a) → (v6 v4 : Bool) (ips : List Ip) → ips ≡ interlaced_list race v6 v4
    → (ip : Ip) → count_by (same_ip ip) ips ≤ 1
listed_once race r six four v6 v4 ips is ip =
    subst (λ (l : List Ip). count_by (same_ip ip) l ≤ 1) (sym is) (order_once race r v6 v4 (moved_parts race r six four v6 v4) ip)
