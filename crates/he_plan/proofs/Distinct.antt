-- No address stands twice in the interlaced list of a race's answers, and none of a family whose answer does not
-- count.
use Rattle.std.proofs.Common.{◌≡◌, ℕ, ◌+◌, ◌≤◌, ◌||◌, ◌++◌, Bool, true, false, cond, not, List, [], ◌∷◌, filter, take, drop, Option, Some, None, refl, sym, ◌∙◌, ap, subst, arith}
use Rattle.std.specs.List.{list_any, count_by}
use Rattle.std.specs.List.Sorted.{IsPermutation}
use Rattle.std.proofs.lemmas.Bool.Decides.{Decides-eqb}
use Rattle.std.proofs.lemmas.Grind.{common_steps}
use Rattle.std.proofs.lemmas.List.Filters.{sum_by-filter_both}
use Rattle.std.proofs.lemmas.List.Sorted.{sum_by-IsPermutation}
use Rattle.std.proofs.lemmas.List.Sums.{sum_by-cons, sum_by-append, sum_by-take-drop}
use Rattle.he_addr.specs.Ip.{same_ip, family_of, is_usable}
use Rattle.he_addr.specs.declared.ip.Family.{Family}
use Rattle.he_addr.specs.declared.ip.Family.TheVariants as families
use Rattle.he_addr.specs.declared.ip.Ip.{Ip}
use Rattle.he_addr.specs.declared.ip.Ip.TheVariants.{V4, V6}
use Rattle.he_plan.specs.Attempts.{order}
use Rattle.he_plan.specs.Alternating.{alternate, interlace_by, interlace}
use Rattle.he_plan.specs.Planning.{part_of, parts_of, interlaced_list}
use Rattle.he_timeline.specs.Race.{Race, Reply, has_ip}
use Rattle.he_timeline.specs.Timeline.{IsRace, is_of, are_of, are_distinct, is_answer}
use Rattle.he_timeline.proofs.Bools.{and_left, and_right, or_left_none, or_right_none}
use Rattle.he_timeline.proofs.Ranges.{same_ip-sym}

pub same_ip-self : (x : Ip) → same_ip x x ≡ true
same_ip-self (V4 m) = (Decides-eqb m m).1 refl
same_ip-self (V6 m) = (Decides-eqb m m).1 refl

pub same_ip-is : (x y : Ip) → same_ip x y ≡ true → x ≡ y
same_ip-is (V4 m) (V4 n) h = ap V4 ((Decides-eqb m n).0 h)
same_ip-is (V6 m) (V6 n) h = ap V6 ((Decides-eqb m n).0 h)
same_ip-is (V4 m) (V6 n) h = cc
same_ip-is (V6 m) (V4 n) h = cc

-- how many of the addresses pass
pub count-cons : (p : Ip → Bool) (x : Ip) (xs : List Ip) → count_by p (x ∷ xs) ≡ cond (p x) 1 0 + count_by p xs
count-cons p x xs = sum_by-cons (λ (y : Ip). cond (p y) 1 0) x xs

-- where it is known whether the first one passes
pub count_at : (p : Ip → Bool) (x : Ip) (xs : List Ip) (b : Bool) → p x ≡ b → count_by p (x ∷ xs) ≡ cond b 1 0 + count_by p xs
count_at p x xs b e = count-cons p x xs ∙ ap (λ (c : Bool). cond c 1 0 + count_by p xs) e

count-append : (p : Ip → Bool) (xs ys : List Ip) → count_by p (xs ++ ys) ≡ count_by p xs + count_by p ys
count-append p xs ys = sum_by-append (λ (y : Ip). cond (p y) 1 0) xs ys

pub count_none : (p : Ip → Bool) (xs : List Ip) → list_any p xs ≡ false → count_by p xs ≡ 0
count_none p [] h = refl
count_none p (x ∷ xs) h =
    let out : p x ≡ false = or_left_none _ _ h in
    let rest : count_by p xs ≡ 0 = count_none p xs (or_right_none _ _ h) in
    count-cons p x xs ∙ rw (out, rest)

pub none_counted : (p : Ip → Bool) (xs : List Ip) → count_by p xs ≡ 0 → list_any p xs ≡ false
none_counted p [] h = refl
none_counted p (x ∷ xs) h = none_by (p x) (sym (count-cons p x xs) ∙ h) (none_counted p xs)
  where
    none_by : (b : Bool) → cond b 1 0 + count_by p xs ≡ 0 → (count_by p xs ≡ 0 → list_any p xs ≡ false) → (b || list_any p xs) ≡ false
    none_by true k rest = absurd (omega arith)
    none_by false k rest = rest (omega arith)

pub count-filter : (p q : Ip → Bool) (xs : List Ip) → count_by p (filter q xs) ≤ count_by p xs
count-filter p q xs = omega (arith, sum_by-filter_both q (λ x. not (q x)) (λ x. refl) (λ (x : Ip). cond (p x) 1 0) xs)

count-alternate : (p : Ip → Bool) (xs ys : List Ip) → count_by p (alternate xs ys) ≡ count_by p xs + count_by p ys
count-alternate p [] ys = omega arith
count-alternate p (x ∷ xs) [] = omega arith
count-alternate p (x ∷ xs) (y ∷ ys) =
    omega (arith, count-cons p x (y ∷ alternate xs ys), count-cons p y (alternate xs ys), count-cons p x xs, count-cons p y ys, count-alternate p xs ys)

count-interlace_by : (p : Ip → Bool) (family : Family) (ips : List Ip) (count : ℕ) → count_by p (interlace_by family ips count) ≡ count_by p ips
count-interlace_by p family ips count =
    let leading : List Ip = filter (is_of family) ips in
    let other : List Ip = filter (λ ip. not (is_of family ip)) ips in
    count_sum (count_by p (interlace_by family ips count)) (count_by p (take count leading)) (count_by p (alternate other (drop count leading))) (count_by p other) (count_by p (drop count leading)) (count_by p leading) (count_by p ips)
    (count-append p (take count leading) (alternate other (drop count leading)))
    (count-alternate p other (drop count leading))
    (sum_by-take-drop (λ (x : Ip). cond (p x) 1 0) leading count)
    (sum_by-filter_both (is_of family) (λ ip. not (is_of family ip)) (λ ip. refl) (λ (x : Ip). cond (p x) 1 0) ips)
  where
    count_sum : (all first mixed other last leading ips : ℕ) → all ≡ first + mixed → mixed ≡ other + last → first + last ≡ leading → leading + other ≡ ips → all ≡ ips
    count_sum all first mixed other last leading ips a b c d = omega arith

count-interlace : (p : Ip → Bool) (ips : List Ip) (count : ℕ) → count_by p (interlace ips count) ≡ count_by p ips
count-interlace p [] count = refl
count-interlace p (first ∷ ips) count = count-interlace_by p (family_of first) (first ∷ ips) count

-- what the order of the addresses keeps, by the members alone
pub count-order : (p : Ip → Bool) (race : Race) (v6 v4 : Bool) → IsPermutation (parts_of race v6 v4) (order race (parts_of race v6 v4)) → count_by p (interlaced_list race v6 v4) ≡ count_by p (parts_of race v6 v4)
count-order p race v6 v4 members =
    count-interlace p (order race (parts_of race v6 v4)) race.settings.count
    ∙ sum_by-IsPermutation (λ (x : Ip). cond (p x) 1 0) (parts_of race v6 v4) (order race (parts_of race v6 v4)) members

has_ip-same : (x : Ip) (ips : List Ip) → has_ip x ips ≡ list_any (same_ip x) ips
has_ip-same x [] = refl
has_ip-same x (y ∷ ips) = rw (same_ip-sym y x, has_ip-same x ips)

not_true : (b : Bool) → not b ≡ true → b ≡ false
not_true b h = grind (arith, common_steps)

distinct_once : (ips : List Ip) → are_distinct ips ≡ true → (ip : Ip) → count_by (same_ip ip) ips ≤ 1
distinct_once [] h ip = omega arith
distinct_once (x ∷ ips) h ip = once_by (same_ip ip x) refl (distinct_once ips (and_right _ _ h) ip)
  where
    once_by : (b : Bool) → same_ip ip x ≡ b → count_by (same_ip ip) ips ≤ 1 → count_by (same_ip ip) (x ∷ ips) ≤ 1
    once_by true e few =
        let same : ip ≡ x = same_ip-is ip x e in
        let none : list_any (same_ip x) ips ≡ false = sym (has_ip-same x ips) ∙ not_true (has_ip x ips) (and_left _ _ h) in
        let rest : count_by (same_ip ip) ips ≡ 0 = subst (λ (z : Ip). count_by (same_ip z) ips ≡ 0) (sym same) (count_none (same_ip x) ips none) in
        let all : count_by (same_ip ip) (x ∷ ips) ≡ 1 + count_by (same_ip ip) ips = count_at (same_ip ip) x ips _ e in
        omega arith
    once_by false e few =
        let all : count_by (same_ip ip) (x ∷ ips) ≡ 0 + count_by (same_ip ip) ips = count_at (same_ip ip) x ips _ e in
        omega arith

-- what no address of the family passes, none of these passes
pub none_of : (family : Family) (p : Ip → Bool) (ips : List Ip) → ((ip : Ip) → is_of family ip ≡ true → p ip ≡ false) → are_of family ips ≡ true → list_any p ips ≡ false
none_of family p [] not h = refl
none_of family p (x ∷ ips) not h =
    let out : p x ≡ false = not x (and_left _ _ h) in
    let rest : list_any p ips ≡ false = none_of family p ips not (and_right _ _ h) in
    rw (out, rest)

pub answer_of : (family : Family) (reply : Reply) → is_answer family (Some reply) ≡ true → are_of family reply.addresses ≡ true
answer_of family reply h = and_right _ _ (and_left _ _ h)

pub part_none : (family : Family) (p : Ip → Bool) (included : Bool) (reply : Option Reply) → ((ip : Ip) → is_of family ip ≡ true → p ip ≡ false) → is_answer family reply ≡ true → count_by p (part_of included reply) ≡ 0
part_none family p included None not h = refl
part_none family p true (Some reply) not h =
    let none : count_by p reply.addresses ≡ 0 = count_none p reply.addresses (none_of family p reply.addresses not (answer_of family reply h)) in
    omega (arith, count-filter p is_usable reply.addresses)
part_none family p false (Some reply) not h = refl

part_once : (family : Family) (included : Bool) (reply : Option Reply) (ip : Ip) → is_answer family reply ≡ true → count_by (same_ip ip) (part_of included reply) ≤ 1
part_once family included None ip h = omega arith
part_once family true (Some reply) ip h =
    omega (arith, count-filter (same_ip ip) is_usable reply.addresses, distinct_once reply.addresses (and_right _ _ h) ip)
part_once family false (Some reply) ip h = omega arith

not_v4 : (n : ℕ) (ip : Ip) → is_of families.V6 ip ≡ true → same_ip (V4 n) ip ≡ false
not_v4 n (V4 m) h = cc
not_v4 n (V6 m) h = refl

not_v6 : (n : ℕ) (ip : Ip) → is_of families.V4 ip ≡ true → same_ip (V6 n) ip ≡ false
not_v6 n (V4 m) h = refl
not_v6 n (V6 m) h = cc

parts_once : (race : Race) → IsRace race → (v6 v4 : Bool) (ip : Ip) → count_by (same_ip ip) (parts_of race v6 v4) ≤ 1
parts_once race r v6 v4 (V4 n) =
    omega (arith, count-append (same_ip (V4 n)) (part_of v6 race.aaaa) (part_of v4 race.a), part_none families.V6 (same_ip (V4 n)) v6 race.aaaa (not_v4 n) r.aaaa, part_once families.V4 v4 race.a (V4 n) r.a)
parts_once race r v6 v4 (V6 n) =
    omega (arith, count-append (same_ip (V6 n)) (part_of v6 race.aaaa) (part_of v4 race.a), part_none families.V4 (same_ip (V6 n)) v4 race.a (not_v6 n) r.a, part_once families.V6 v6 race.aaaa (V6 n) r.aaaa)

pub order_once : (race : Race) → IsRace race → (v6 v4 : Bool) → IsPermutation (parts_of race v6 v4) (order race (parts_of race v6 v4)) → (ip : Ip) → count_by (same_ip ip) (interlaced_list race v6 v4) ≤ 1
order_once race r v6 v4 members ip = omega (arith, count-order (same_ip ip) race v6 v4 members, parts_once race r v6 v4 ip)

v4_alone : (ip : Ip) → is_of families.V4 ip ≡ true → is_of families.V6 ip ≡ false
v4_alone (V4 m) h = refl
v4_alone (V6 m) h = cc

v6_alone : (ip : Ip) → is_of families.V6 ip ≡ true → is_of families.V4 ip ≡ false
v6_alone (V4 m) h = cc
v6_alone (V6 m) h = refl

none_counts : (p : Ip → Bool) (reply : Option Reply) → count_by p (part_of false reply) ≡ 0
none_counts p None = refl
none_counts p (Some reply) = refl

pub no_v6 : (race : Race) → IsRace race → (v4 : Bool) → IsPermutation (parts_of race false v4) (order race (parts_of race false v4)) → count_by (is_of families.V6) (interlaced_list race false v4) ≡ 0
no_v6 race r v4 members =
    omega (arith, count-order (is_of families.V6) race false v4 members, count-append (is_of families.V6) (part_of false race.aaaa) (part_of v4 race.a), none_counts (is_of families.V6) race.aaaa, part_none families.V4 (is_of families.V6) v4 race.a v4_alone r.a)

pub no_v4 : (race : Race) → IsRace race → (v6 : Bool) → IsPermutation (parts_of race v6 false) (order race (parts_of race v6 false)) → count_by (is_of families.V4) (interlaced_list race v6 false) ≡ 0
no_v4 race r v6 members =
    omega (arith, count-order (is_of families.V4) race v6 false members, count-append (is_of families.V4) (part_of v6 race.aaaa) (part_of false race.a), none_counts (is_of families.V4) race.a, part_none families.V6 (is_of families.V4) v6 race.aaaa v6_alone r.aaaa)
