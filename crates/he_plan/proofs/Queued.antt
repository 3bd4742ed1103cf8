-- The queue of a plan: at which address it is, and what one more attempt leaves true of it.
use Rattle.std.proofs.Common.{◌≡◌, ℕ, suc, ◌+◌, ◌≤◌, ◌<◌, ◌&&◌, ◌||◌, ◌++◌, Bool, true, false, cond, not, List, [], ◌∷◌, length, drop, filter, find, Option, Some, None, IfSome, zero, refl, sym, ◌∙◌, ap, subst, arith, inl}
use Rattle.std.specs.List.{list_all, list_any, count_by, slice_get}
use Rattle.std.specs.List.Sorted.{IsPermutation}
use Rattle.std.proofs.lemmas.List.Elements.{filter_agree}
use Rattle.std.proofs.lemmas.List.Folds.{list_all-append, list_any-append}
use Rattle.std.proofs.lemmas.List.Sorted.{IsPermutation-refl}
use Rattle.std.proofs.lemmas.List.Sums.{length-filter}
use Rattle.he_addr.specs.Ip.{is_usable, same_ip}
use Rattle.he_addr.specs.declared.ip.Family.{Family}
use Rattle.he_addr.specs.declared.ip.Family.TheVariants as families
use Rattle.he_addr.specs.declared.ip.Ip.{Ip}
use Rattle.he_plan.specs.declared.attempts.Attempt.{Attempt}
use Rattle.he_plan.specs.Attempts.{MayStart, is_tried, is_untried, last_of, order, order_at, received, received_of}
use Rattle.he_timeline.specs.Seen.{seen}
use Rattle.he_plan.specs.Alternating.{interlace}
use Rattle.he_plan.specs.Planning.{IsLater, is_received, part_of, parts_of, interlaced_list}
use Rattle.he_timeline.specs.Race.{Race, Reply}
use Rattle.he_plan.specs.RaceState.{AreSorted, IsAtNext, IsOwn, IsQueue, IsRest, UntriedValues, nothing_received, was_received}
use Rattle.he_timeline.specs.Timeline.{IsRace, is_of}
use Rattle.he_timeline.proofs.Bools.{and_both, le_test, le_from, or_none, or_left_none, or_right_none, clash}
use Rattle.he_plan.proofs.Distinct.{same_ip-self, count_at, count_none, none_counted, count-filter, count-order, order_once, no_v6, no_v4}
use Rattle.he_plan.proofs.Planned.{last_of-more, starts_any}
use Rattle.he_select.specs.Preference.{order_of as by_preference}

filter-usable : (ips : List Ip) → list_all is_usable (filter is_usable ips) ≡ true
filter-usable [] = refl
filter-usable (ip ∷ ips) = kept (is_usable ip) refl (filter-usable ips)
  where
    kept : (b : Bool) → is_usable ip ≡ b → list_all is_usable (filter is_usable ips) ≡ true → list_all is_usable (cond b (ip ∷ filter is_usable ips) (filter is_usable ips)) ≡ true
    kept true e rest = and_both _ _ e rest
    kept false e rest = rest

part-usable : (included : Bool) (reply : Option Reply) → list_all is_usable (part_of included reply) ≡ true
part-usable included None = refl
part-usable true (Some reply) = filter-usable reply.addresses
part-usable false (Some reply) = refl

-- what is sorted is usable
pub parts-usable : (race : Race) (v6 v4 : Bool) → list_all is_usable (parts_of race v6 v4) ≡ true
parts-usable race v6 v4 =
    list_all-append is_usable (part_of v6 race.aaaa) (part_of v4 race.a)
    ∙ and_both _ _ (part-usable v6 race.aaaa) (part-usable v4 race.a)

part_is : (race : Race) (t : ℕ) (reply : Option Reply) → received_of race t reply ≡ part_of (is_received race t reply) reply
part_is race t None = refl
part_is race t (Some reply) = refl

pub received_is : (race : Race) (t : ℕ) (v6 v4 : Bool) → v6 ≡ is_received race t race.aaaa → v4 ≡ is_received race t race.a → received race t ≡ parts_of race v6 v4
received_is race t v6 v4 six four =
    let f : List Ip → List Ip → List Ip = λ xs ys. xs ++ ys in
    ap (λ xs. f xs (received_of race t race.a)) (part_is race t race.aaaa ∙ ap (λ b. part_of b race.aaaa) (sym six))
    ∙ ap (f (part_of v6 race.aaaa)) (part_is race t race.a ∙ ap (λ b. part_of b race.a) (sym four))

order_is : (race : Race) (t : ℕ) (v6 v4 : Bool) → v6 ≡ is_received race t race.aaaa → v4 ≡ is_received race t race.a → order_at race t ≡ interlaced_list race v6 v4
order_is race t v6 v4 six four = ap (λ ips. interlace (order race ips) race.settings.count) (received_is race t v6 v4 six four)

-- an address passes where some do
pub any_counted : (p : Ip → Bool) (xs : List Ip) → 0 < count_by p xs → list_any p xs ≡ true
any_counted p xs some = any_by (list_any p xs) refl
  where
    any_by : (b : Bool) → list_any p xs ≡ b → b ≡ true
    any_by true e = refl
    any_by false e = absurd (omega (arith, count_none p xs e))

pub counts_any : (p : Ip → Bool) (xs : List Ip) → list_any p xs ≡ true → 0 < count_by p xs
counts_any p xs some = counts_by (count_by p xs) refl
  where
    counts_by : (n : ℕ) → count_by p xs ≡ n → 0 < n
    counts_by zero e = absurd (clash (list_any p xs) some (none_counted p xs e))
    counts_by (suc n) e = omega arith

-- as many addresses are left as are untried
pub left_is : (race : Race) (done : List Attempt) (q : UntriedValues) → IsRest race done q → length q.ips ≡ count_by (is_untried done) (parts_of race q.v6 q.v4)
left_is race done q rest =
    ap length rest.rest ∙ length-filter (is_untried done) (interlaced_list race q.v6 q.v4) ∙ count-order (is_untried done) race q.v6 q.v4 rest.members

find_first : (p : Ip → Bool) (xs : List Ip) → find p xs ≡ slice_get (filter p xs) 0
find_first p [] = refl
find_first p (x ∷ xs) = find_by (p x) (find_first p xs)
  where
    find_by : (b : Bool) → find p xs ≡ slice_get (filter p xs) 0 → cond b (Some x) (find p xs) ≡ slice_get (cond b (x ∷ filter p xs) (filter p xs)) 0
    find_by true rest = refl
    find_by false rest = rest

-- the queue of what is received at t, at its first untried address, where an attempt may start at t
at_next : (race : Race) (done : List Attempt) (t : ℕ) (q : UntriedValues) → MayStart race done t → q.v6 ≡ is_received race t race.aaaa → q.v4 ≡ is_received race t race.a → IsRest race done q → IsAtNext race done t q
at_next race done t q may six four rest =
    let some : list_any (is_untried done) (parts_of race q.v6 q.v4) ≡ true = subst (λ (xs : List Ip). list_any (is_untried done) xs ≡ true) (received_is race t q.v6 q.v4 six four) (starts_any race done t may) in
    record {
      rest = rest;
      six = six;
      four = four;
      some = omega (arith, left_is race done q rest, counts_any (is_untried done) (parts_of race q.v6 q.v4) some);
      first = ap (find (is_untried done)) (order_is race t q.v6 q.v4 six four) ∙ find_first (is_untried done) (interlaced_list race q.v6 q.v4) ∙ ap (λ (ips : List Ip). slice_get ips 0) (sym rest.rest);
    }

stays_by : (race : Race) (last : Option Attempt) (t : ℕ) (reply : Option Reply) → IfSome last (λ x. x.tick < t) → was_received race last reply ≡ true → is_received race t reply ≡ true
stays_by race None t reply later h = cc
stays_by race (Some last) t None later h = cc
stays_by race (Some last) t (Some reply) later h = le_test _ _ (omega (arith, le_from (seen race reply.tick) last.tick h, later))

-- what was received by the last start is still received, so what is received later is that and what is new
received_now : (race : Race) (done : List Attempt) (t : ℕ) (reply : Option Reply) (old new : Bool) → IsLater done t → old ≡ was_received race (last_of done) reply → new ≡ (old || is_received race t reply) → new ≡ is_received race t reply
received_now race done t reply old new later was now = now ∙ ap (λ b. b || is_received race t reply) was ∙ now_by (was_received race (last_of done) reply) (is_received race t reply) (stays_by race (last_of done) t reply later.1)
  where
    now_by : (a b : Bool) → (a ≡ true → b ≡ true) → (a || b) ≡ b
    now_by true b h = sym (h refl)
    now_by false b h = refl

-- attempts of a family whose answer does not count are none, also where more answers count
own_still : (family : Family) (done : List Attempt) (old new now : Bool) → new ≡ (old || now) → IsOwn family old done → IsOwn family new done
own_still family done old new now is own none = own (or_left_none old now (sym is ∙ none))

-- the queue where nothing new is received at t
pub stays_next : (race : Race) (done : List Attempt) (t : ℕ) (q : UntriedValues) (v6 v4 : Bool) → MayStart race done t → IsLater done t → IsQueue race done q → v6 ≡ (q.v6 || is_received race t race.aaaa) → v4 ≡ (q.v4 || is_received race t race.a) → v6 ≡ q.v6 → v4 ≡ q.v4 → IsAtNext race done t q
stays_next race done t q v6 v4 may later queue is6 is4 same6 same4 =
    at_next race done t q may
    (sym same6 ∙ received_now race done t race.aaaa q.v6 v6 later queue.six is6)
    (sym same4 ∙ received_now race done t race.a q.v4 v4 later queue.four is4)
    queue.rest

-- the queue made anew
pub anew_next : (race : Race) (done : List Attempt) (t : ℕ) (old new : UntriedValues) → MayStart race done t → IsLater done t → IsQueue race done old → new.v6 ≡ (old.v6 || is_received race t race.aaaa) → new.v4 ≡ (old.v4 || is_received race t race.a) → IsPermutation (parts_of race new.v6 new.v4) (order race (parts_of race new.v6 new.v4)) → new.ips ≡ filter (is_untried done) (interlaced_list race new.v6 new.v4) → AreSorted race new.sorted → IsAtNext race done t new
anew_next race done t old new may later queue is6 is4 members is sorted =
    at_next race done t new may
    (received_now race done t race.aaaa old.v6 new.v6 later queue.six is6)
    (received_now race done t race.a old.v4 new.v4 later queue.four is4)
    (record {
      members = members;
      own_six = own_still families.V6 done old.v6 new.v6 (is_received race t race.aaaa) is6 queue.rest.own_six;
      own_four = own_still families.V4 done old.v4 new.v4 (is_received race t race.a) is4 queue.rest.own_four;
      rest = is;
      sorted = sorted;
    })

-- the queue where memory is refused: no more than its addresses are sorted
pub IsQueue-sorted : (race : Race) (done : List Attempt) (q : UntriedValues) (sorted : List Ip) → IsQueue race done q → AreSorted race sorted → IsQueue race done (record q { sorted = sorted })
IsQueue-sorted race done q sorted queue are = record {
  rest = record { members = queue.rest.members; own_six = queue.rest.own_six; own_four = queue.rest.own_four; rest = queue.rest.rest; sorted = are };
  six = queue.six;
  four = queue.four;
}

pub order-none : (race : Race) → order race [] ≡ []
unfolding by_preference
order-none race = refl

-- where no answer is included there is no address
pub no_parts : (race : Race) → parts_of race false false ≡ []
no_parts race = nothing race.aaaa race.a
  where
    nothing : (x y : Option Reply) → part_of false x ++ part_of false y ≡ []
    nothing None None = refl
    nothing None (Some y) = refl
    nothing (Some x) None = refl
    nothing (Some x) (Some y) = refl

pub IsQueue-new : (race : Race) → IsQueue race [] nothing_received
IsQueue-new race =
    let none : parts_of race false false ≡ [] = no_parts race in
    let sorted : order race (parts_of race false false) ≡ [] = ap (order race) none ∙ order-none race in
    record {
      rest = record {
        members = rw (none, order-none race) (IsPermutation-refl []);
        own_six = λ e. refl;
        own_four = λ e. refl;
        rest = sym (ap (λ ips. filter (is_untried []) (interlace ips race.settings.count)) sorted);
        sorted = inl refl;
      };
      six = refl;
      four = refl;
    }

filter_twice : (p q : Ip → Bool) (xs : List Ip) → filter p (filter q xs) ≡ filter (λ x. q x && p x) xs
filter_twice p q [] = refl
filter_twice p q (x ∷ xs) = twice_by (q x) (filter_twice p q xs)
  where
    twice_by : (b : Bool) → filter p (filter q xs) ≡ filter (λ y. q y && p y) xs → filter p (cond b (x ∷ filter q xs) (filter q xs)) ≡ cond (b && p x) (x ∷ filter (λ y. q y && p y) xs) (filter (λ y. q y && p y) xs)
    twice_by true e = rw e
    twice_by false e = e

filter_kept : (p : Ip → Bool) (xs : List Ip) → list_any p xs ≡ false → filter (λ x. not (p x)) xs ≡ xs
filter_kept p [] h = refl
filter_kept p (x ∷ xs) h =
    let out : p x ≡ false = or_left_none _ _ h in
    let rest : filter (λ y. not (p y)) xs ≡ xs = filter_kept p xs (or_right_none _ _ h) in
    rw (out, rest)

untried_more : (done : List Attempt) (x : Attempt) (ip : Ip) → is_untried (done ++ x ∷ []) ip ≡ (is_untried done ip && not (same_ip x.ip ip))
untried_more done x ip = ap not (list_any-append (λ (y : Attempt). same_ip y.ip ip) done (x ∷ [])) ∙ not_either (is_tried done ip) (same_ip x.ip ip)
  where
    not_either : (a b : Bool) → not (a || (b || false)) ≡ (not a && not b)
    not_either true b = refl
    not_either false true = refl
    not_either false false = refl

-- one more attempt, at the first untried address, leaves the others untried
rest_more : (done : List Attempt) (x : Attempt) (all rest : List Ip) → filter (is_untried done) all ≡ x.ip ∷ rest → count_by (same_ip x.ip) all ≤ 1 → rest ≡ filter (is_untried (done ++ x ∷ [])) all
rest_more done x all rest is once =
    let self : same_ip x.ip x.ip ≡ true = same_ip-self x.ip in
    let one : count_by (same_ip x.ip) (x.ip ∷ rest) ≡ 1 + count_by (same_ip x.ip) rest = count_at (same_ip x.ip) x.ip rest true self in
    let few : count_by (same_ip x.ip) (x.ip ∷ rest) ≤ count_by (same_ip x.ip) all = subst (λ (xs : List Ip). count_by (same_ip x.ip) xs ≤ count_by (same_ip x.ip) all) is (count-filter (same_ip x.ip) (is_untried done) all) in
    let none : list_any (same_ip x.ip) rest ≡ false = none_counted (same_ip x.ip) rest (omega arith) in
    let first : filter (λ ip. not (same_ip x.ip ip)) (x.ip ∷ rest) ≡ rest = rw self (filter_kept (same_ip x.ip) rest none) in
    sym (filter_agree (is_untried (done ++ x ∷ [])) (λ ip. is_untried done ip && not (same_ip x.ip ip)) (untried_more done x) all
    ∙ sym (filter_twice (λ ip. not (same_ip x.ip ip)) (is_untried done) all)
    ∙ ap (filter (λ ip. not (same_ip x.ip ip))) is
    ∙ first)

-- where no address of a list passes, the first untried one does not
first_not : (p q : Ip → Bool) (all rest : List Ip) (x : Ip) → filter q all ≡ x ∷ rest → count_by p all ≡ 0 → p x ≡ false
first_not p q all rest x is none =
    let few : count_by p (x ∷ rest) ≤ count_by p all = subst (λ (xs : List Ip). count_by p xs ≤ count_by p all) is (count-filter p q all) in
    or_left_none (p x) (list_any p rest) (none_counted p (x ∷ rest) (omega arith))

own_more : (family : Family) (included : Bool) (done : List Attempt) (x : Attempt) → IsOwn family included done → (included ≡ false → is_of family x.ip ≡ false) → IsOwn family included (done ++ x ∷ [])
own_more family included done x own not none =
    list_any-append (λ (y : Attempt). is_of family y.ip) done (x ∷ []) ∙ or_none _ _ (own none) (or_none _ _ (not none) refl)

-- the address that stands first, and the rest
split_first : (ips : List Ip) (ip : Ip) → slice_get ips 0 ≡ Some ip → ips ≡ ip ∷ drop 1 ips
split_first [] ip h = cc
split_first (x ∷ ips) ip h = cc

-- the queue after one more attempt, which starts at t at the address that the queue is at
pub IsQueue-more : (race : Race) → IsRace race → (done : List Attempt) (x : Attempt) (q : UntriedValues) → IsAtNext race done x.tick q → slice_get q.ips 0 ≡ Some x.ip → IsQueue race (done ++ x ∷ []) (record q { ips = drop 1 q.ips })
IsQueue-more race r done x q next first =
    let is : filter (is_untried done) (interlaced_list race q.v6 q.v4) ≡ x.ip ∷ drop 1 q.ips = sym next.rest.rest ∙ split_first q.ips x.ip first in
    let last : last_of (done ++ x ∷ []) ≡ Some x = last_of-more done x in
    record {
      rest = record {
        members = next.rest.members;
        own_six = own_more families.V6 q.v6 done x next.rest.own_six (λ e. first_not (is_of families.V6) (is_untried done) (interlaced_list race q.v6 q.v4) (drop 1 q.ips) x.ip is (none_v6 q.v6 e next.rest.members));
        own_four = own_more families.V4 q.v4 done x next.rest.own_four (λ e. first_not (is_of families.V4) (is_untried done) (interlaced_list race q.v6 q.v4) (drop 1 q.ips) x.ip is (none_v4 q.v4 e next.rest.members));
        rest = rest_more done x (interlaced_list race q.v6 q.v4) (drop 1 q.ips) is (order_once race r q.v6 q.v4 next.rest.members x.ip);
        sorted = next.rest.sorted;
      };
      six = next.six ∙ ap (λ o. was_received race o race.aaaa) (sym last);
      four = next.four ∙ ap (λ o. was_received race o race.a) (sym last);
    }
  where
    none_v6 : (b : Bool) → b ≡ false → IsPermutation (parts_of race b q.v4) (order race (parts_of race b q.v4)) → count_by (is_of families.V6) (interlaced_list race b q.v4) ≡ 0
    none_v6 true e members = cc
    none_v6 false e members = no_v6 race r q.v4 members

    none_v4 : (b : Bool) → b ≡ false → IsPermutation (parts_of race q.v6 b) (order race (parts_of race q.v6 b)) → count_by (is_of families.V4) (interlaced_list race q.v6 b) ≡ 0
    none_v4 true e members = cc
    none_v4 false e members = no_v4 race r q.v6 members
