-- The list of the included answers is a part of the sorted addresses of both.
use Rattle.std.proofs.Common.{◌≡◌, ℕ, zero, suc, ◌≤◌, ◌<◌, ◌++◌, Bool, true, false, cond, List, [], ◌∷◌, length, filter, take, drop, get_or, Option, Some, None, refl, sym, ◌∙◌, ap, arith}
use Rattle.std.specs.List.{list_all, swap}
use Rattle.std.specs.Prelude.{All, IsPermutation}
use Rattle.std.proofs.lemmas.List.{drop_all, take_all}
use Rattle.std.proofs.lemmas.List.Elements.{filter-append, filter_agree}
use Rattle.std.proofs.lemmas.List.Sorted.{IsPermutation-keeps}
use Rattle.he_addr.specs.Ip.{InRange, IsUsable, family_of, is_usable}
use Rattle.he_addr.specs.declared.ip.Family.{Family}
use Rattle.he_addr.specs.declared.ip.Family.TheVariants as families
use Rattle.he_addr.specs.declared.ip.Ip.{Ip}
use Rattle.he_addr.specs.declared.ip.Ip.TheVariants.{V4, V6}
use Rattle.he_select.proofs.Counting.{Each, each-get}
use Rattle.he_select.proofs.Families.{parts_families}
use Rattle.he_select.proofs.Filtered.{filtered_order}
use Rattle.he_select.proofs.Ordered.{one_order}
use Rattle.he_plan.specs.Alternating.{alternate, interlace, interlace_by}
use Rattle.he_plan.specs.Attempts.{order}
use Rattle.he_plan.specs.Planning.{interlaced_list, is_of_included, part_of, parts_of}
use Rattle.he_timeline.specs.Race.{Race, Reply, addresses_of, race_input, usable_addresses}
use Rattle.he_timeline.specs.Timeline.{IsRace, are_of, is_answer, is_of}
use Rattle.he_plan.proofs.Alternation.{alone-interlace_by, filter_short}
use Rattle.he_timeline.proofs.Bools.{and_both, and_left, and_right}
use Rattle.he_plan.proofs.Distinct.{answer_of}
use Rattle.he_plan.proofs.Existing.{each_both, each_usable}

-- of addresses of one family a test keeps all, or none
kept_all : (family : Family) (keep : Ip → Bool) (ips : List Ip) → ((ip : Ip) → is_of family ip ≡ true → keep ip ≡ true) → are_of family ips ≡ true → filter keep (filter is_usable ips) ≡ filter is_usable ips
kept_all family keep [] at h = refl
kept_all family keep (ip ∷ ips) at h = by_head (is_usable ip) (at ip (and_left _ _ h)) (kept_all family keep ips at (and_right _ _ h))
  where
    by_head : (b : Bool) → keep ip ≡ true → filter keep (filter is_usable ips) ≡ filter is_usable ips → filter keep (cond b (ip ∷ filter is_usable ips) (filter is_usable ips)) ≡ cond b (ip ∷ filter is_usable ips) (filter is_usable ips)
    by_head true e rest = rw (e, rest)
    by_head false e rest = rest

kept_none : (family : Family) (keep : Ip → Bool) (ips : List Ip) → ((ip : Ip) → is_of family ip ≡ true → keep ip ≡ false) → are_of family ips ≡ true → filter keep (filter is_usable ips) ≡ []
kept_none family keep [] at h = refl
kept_none family keep (ip ∷ ips) at h = by_head (is_usable ip) (at ip (and_left _ _ h)) (kept_none family keep ips at (and_right _ _ h))
  where
    by_head : (b : Bool) → keep ip ≡ false → filter keep (filter is_usable ips) ≡ [] → filter keep (cond b (ip ∷ filter is_usable ips) (filter is_usable ips)) ≡ []
    by_head true e rest = rw e rest
    by_head false e rest = rest

part_kept : (family : Family) (keep : Ip → Bool) (included : Bool) (reply : Option Reply) → ((ip : Ip) → is_of family ip ≡ true → keep ip ≡ included) → is_answer family reply ≡ true → filter keep (part_of true reply) ≡ part_of included reply
part_kept family keep included None at h = refl
part_kept family keep true (Some reply) at h = kept_all family keep reply.addresses at (answer_of family reply h)
part_kept family keep false (Some reply) at h = kept_none family keep reply.addresses at (answer_of family reply h)

six_included : (v6 v4 : Bool) (ip : Ip) → is_of families.V6 ip ≡ true → is_of_included v6 v4 ip ≡ v6
six_included v6 v4 (V4 n) h = cc
six_included v6 v4 (V6 n) h = refl

four_included : (v6 v4 : Bool) (ip : Ip) → is_of families.V4 ip ≡ true → is_of_included v6 v4 ip ≡ v4
four_included v6 v4 (V4 n) h = refl
four_included v6 v4 (V6 n) h = cc

parts_kept : (race : Race) → IsRace race → (v6 v4 : Bool) → filter (is_of_included v6 v4) (parts_of race true true) ≡ parts_of race v6 v4
parts_kept race r v6 v4 =
    filter-append (is_of_included v6 v4) (part_of true race.aaaa) (part_of true race.a)
    ∙ ap (λ xs. xs ++ filter (is_of_included v6 v4) (part_of true race.a)) (part_kept families.V6 (is_of_included v6 v4) v6 race.aaaa (six_included v6 v4) r.aaaa)
    ∙ ap (λ ys. part_of v6 race.aaaa ++ ys) (part_kept families.V4 (is_of_included v6 v4) v4 race.a (four_included v6 v4) r.a)

each_part : (included : Bool) (reply : Option Reply) → Each InRange (addresses_of reply) → Each IsUsable (part_of included reply)
each_part included None h = tt
each_part true (Some reply) h = each_usable reply.addresses h
each_part false (Some reply) h = tt

each_parts : (race : Race) → All InRange (addresses_of race.aaaa) → All InRange (addresses_of race.a) → (v6 v4 : Bool) → Each IsUsable (parts_of race v6 v4)
each_parts race six four v6 v4 =
    each_both (part_of v6 race.aaaa) (part_of v4 race.a)
    (each_part v6 race.aaaa (each-get InRange (addresses_of race.aaaa) (λ i d lt. six i d lt)))
    (each_part v4 race.a (each-get InRange (addresses_of race.a) (λ i d lt. four i d lt)))

usable_at : (ips : List Ip) → Each IsUsable ips → (i : ℕ) (d : Ip) → i < length ips → IsUsable (get_or ips i d)
usable_at [] each i d lt = absurd (omega arith)
usable_at (ip ∷ ips) each zero d lt = each.0
usable_at (ip ∷ ips) each (suc i) d lt = usable_at ips each.1 i d (omega arith)

-- sorting only moves the addresses
pub moved_parts : (race : Race) → IsRace race → All InRange (addresses_of race.aaaa) → All InRange (addresses_of race.a) → (v6 v4 : Bool) → IsPermutation (parts_of race v6 v4) (order race (parts_of race v6 v4))
moved_parts race r six four v6 v4 = (one_order (race_input race) (parts_families race.policy r.policy) (parts_of race v6 v4) (each_parts race six four v6 v4)).is.members

-- the order of the included answers' addresses is the order of both answers' without the others
order_kept : (race : Race) → IsRace race → All InRange (addresses_of race.aaaa) → All InRange (addresses_of race.a) → (v6 v4 : Bool) → order race (parts_of race v6 v4) ≡ filter (is_of_included v6 v4) (order race (parts_of race true true))
order_kept race r six four v6 v4 =
    ap (order race) (sym (parts_kept race r v6 v4))
    ∙ filtered_order (race_input race) r.policy (is_of_included v6 v4) (parts_of race true true) (λ i d lt. usable_at (parts_of race true true) (each_parts race six four true true) i d lt)

-- where both answers are included, so are all usable addresses
pub all_parts : (race : Race) → parts_of race true true ≡ usable_addresses race
all_parts race = by_reply race.aaaa race.a
  where
    by_reply : (x y : Option Reply) → part_of true x ++ part_of true y ≡ filter is_usable (addresses_of x) ++ filter is_usable (addresses_of y)
    by_reply None None = refl
    by_reply None (Some y) = refl
    by_reply (Some x) None = refl
    by_reply (Some x) (Some y) = refl

pub list_kept : (race : Race) → IsRace race → All InRange (addresses_of race.aaaa) → All InRange (addresses_of race.a) → (v6 v4 : Bool) (sorted : List Ip) → sorted ≡ order race (usable_addresses race) → interlace (filter (is_of_included v6 v4) sorted) race.settings.count ≡ interlaced_list race v6 v4
list_kept race r six four v6 v4 sorted is =
    ap (λ ips. interlace (filter (is_of_included v6 v4) ips) race.settings.count) (is ∙ ap (order race) (sym (all_parts race)))
    ∙ ap (λ ips. interlace ips race.settings.count) (sym (order_kept race r six four v6 v4))

-- what passes a test passes it
passing : (p : Ip → Bool) (ips : List Ip) → list_all p (filter p ips) ≡ true
passing p [] = refl
passing p (ip ∷ ips) = by_head (p ip) refl (passing p ips)
  where
    by_head : (b : Bool) → p ip ≡ b → list_all p (filter p ips) ≡ true → list_all p (cond b (ip ∷ filter p ips) (filter p ips)) ≡ true
    by_head true e rest = and_both _ _ e rest
    by_head false e rest = rest

all_pass : (p : Ip → Bool) (ips : List Ip) → list_all p ips ≡ true → filter p ips ≡ ips
all_pass p [] h = refl
all_pass p (ip ∷ ips) h =
    let first : p ip ≡ true = and_left _ _ h in
    let rest : filter p ips ≡ ips = all_pass p ips (and_right _ _ h) in
    rw (first, rest)

family_is : (family : Family) (ip : Ip) → is_of family ip ≡ true → family_of ip ≡ family
family_is families.V6 (V6 n) h = refl
family_is families.V6 (V4 n) h = cc
family_is families.V4 (V4 n) h = refl
family_is families.V4 (V6 n) h = cc

-- one family alone stays in its order
alone : (family : Family) (ips : List Ip) (count : ℕ) → are_of family ips ≡ true → interlace ips count ≡ ips
alone family [] count h = refl
alone family (ip ∷ ips) count h =
    let all : filter (is_of family) (ip ∷ ips) ≡ ip ∷ ips = all_pass (is_of family) (ip ∷ ips) h in
    ap (λ leading. interlace_by leading (ip ∷ ips) count) (family_is family ip (and_left _ _ h))
    ∙ sym (alone-interlace_by family (ip ∷ ips) count (ap length all))
    ∙ all

-- the included answers' part, by which these are
pub part_both : (ips : List Ip) → filter (is_of_included true true) ips ≡ ips
part_both [] = refl
part_both (V4 n ∷ ips) = ap (λ xs. V4 n ∷ xs) (part_both ips)
part_both (V6 n ∷ ips) = ap (λ xs. V6 n ∷ xs) (part_both ips)

part_none : (ips : List Ip) → filter (is_of_included false false) ips ≡ []
part_none [] = refl
part_none (V4 n ∷ ips) = part_none ips
part_none (V6 n ∷ ips) = part_none ips

six_alone : (ip : Ip) → is_of_included true false ip ≡ is_of families.V6 ip
six_alone (V4 n) = refl
six_alone (V6 n) = refl

four_alone : (ip : Ip) → is_of_included false true ip ≡ is_of families.V4 ip
four_alone (V4 n) = refl
four_alone (V6 n) = refl

part_of_one : (v6 v4 : Bool) (family : Family) (ips : List Ip) (count : ℕ) → ((ip : Ip) → is_of_included v6 v4 ip ≡ is_of family ip) → filter (is_of family) ips ≡ interlace (filter (is_of_included v6 v4) ips) count
part_of_one v6 v4 family ips count same =
    sym (alone family (filter (is_of family) ips) count (passing (is_of family) ips))
    ∙ ap (λ xs. interlace xs count) (sym (filter_agree (is_of_included v6 v4) (is_of family) same ips))

pub part_of_six : (ips : List Ip) (count : ℕ) → filter (is_of families.V6) ips ≡ interlace (filter (is_of_included true false) ips) count
part_of_six ips count = part_of_one true false families.V6 ips count six_alone

pub part_of_four : (ips : List Ip) (count : ℕ) → filter (is_of families.V4) ips ≡ interlace (filter (is_of_included false true) ips) count
part_of_four ips count = part_of_one false true families.V4 ips count four_alone

pub part_of_none : (ips : List Ip) (count : ℕ) → [] ≡ interlace (filter (is_of_included false false) ips) count
part_of_none ips count = sym (ap (λ xs. interlace xs count) (part_none ips))

-- one address stays where it is
swap_one : (x : Ip) (l : List Ip) (i j : ℕ) → i < length l → j < length l → l ≡ x ∷ [] → swap l i j ≡ x ∷ []
swap_one x l zero zero a b e = ap (λ m. swap m 0 0) e
swap_one x l zero (suc j) a b e = absurd (omega (arith, ap length e))
swap_one x l (suc i) j a b e = absurd (omega (arith, ap length e))

swap_none : (l : List Ip) (i j : ℕ) → i < length l → j < length l → l ≡ [] → swap l i j ≡ []
swap_none l i j a b e = absurd (omega (arith, ap length e))

moved_one : (xs ys : List Ip) → length xs ≤ 1 → IsPermutation xs ys → ys ≡ xs
moved_one [] ys short moved = IsPermutation-keeps [] (λ l. l ≡ []) refl swap_none ys moved
moved_one (x ∷ []) ys short moved = IsPermutation-keeps (x ∷ []) (λ l. l ≡ x ∷ []) refl (swap_one x) ys moved
moved_one (x ∷ y ∷ xs) ys short moved = absurd (omega arith)

one_and_one : (x y : Ip) (count : ℕ) → 1 ≤ count → take count (x ∷ []) ++ alternate (y ∷ []) (drop count (x ∷ [])) ≡ x ∷ y ∷ []
one_and_one x y count some = rw (take_all count (x ∷ []) some, drop_all count (x ∷ []) some) refl

-- two addresses stay where they are
pub alone_two : (ips : List Ip) (count : ℕ) → length ips ≤ 2 → 1 ≤ count → interlace ips count ≡ ips
alone_two [] count short some = refl
alone_two (V4 m ∷ []) count short some = alone families.V4 (V4 m ∷ []) count refl
alone_two (V6 m ∷ []) count short some = alone families.V6 (V6 m ∷ []) count refl
alone_two (V4 m ∷ V4 n ∷ []) count short some = alone families.V4 (V4 m ∷ V4 n ∷ []) count refl
alone_two (V6 m ∷ V6 n ∷ []) count short some = alone families.V6 (V6 m ∷ V6 n ∷ []) count refl
alone_two (V4 m ∷ V6 n ∷ []) count short some = one_and_one (V4 m) (V6 n) count some
alone_two (V6 m ∷ V4 n ∷ []) count short some = one_and_one (V6 m) (V4 n) count some
alone_two (x ∷ y ∷ z ∷ ips) count short some = absurd (omega arith)

alone_one : (ips : List Ip) (count : ℕ) → length ips ≤ 1 → interlace ips count ≡ ips
alone_one [] count short = refl
alone_one (V4 n ∷ []) count short = alone families.V4 (V4 n ∷ []) count refl
alone_one (V6 n ∷ []) count short = alone families.V6 (V6 n ∷ []) count refl
alone_one (x ∷ y ∷ ips) count short = absurd (omega arith)

-- so one address is its own list
pub list_of_one : (race : Race) → IsRace race → All InRange (addresses_of race.aaaa) → All InRange (addresses_of race.a) → (v6 v4 : Bool) → length (parts_of race v6 v4) ≤ 1 → parts_of race v6 v4 ≡ interlaced_list race v6 v4
list_of_one race r six four v6 v4 short =
    sym (ap (λ ips. interlace ips race.settings.count) (moved_one (parts_of race v6 v4) (order race (parts_of race v6 v4)) short (moved_parts race r six four v6 v4)) ∙ alone_one (parts_of race v6 v4) race.settings.count short)

-- no more of an answer are usable than it has
pub part_short : (included : Bool) (reply : Option Reply) → length (part_of included reply) ≤ length (addresses_of reply)
part_short included None = omega arith
part_short true (Some reply) = filter_short is_usable reply.addresses
part_short false (Some reply) = omega arith
