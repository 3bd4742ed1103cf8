-- Where the address of an attempt comes from, and when its answer is seen.
use Rattle.std.proofs.Common.{◌≡◌, ℕ, ◌+◌, ◌≤◌, ◌<◌, ◌&&◌, ◌||◌, Bool, true, false, cond, if◌then◌else◌, List, [], ◌∷◌, map, filter, find, refl, sym, ◌∙◌, ap, subst, arith, inl, inr, nat_le}
use Rattle.std.specs.Prelude.{Option, None, Some, IsSomeAnd}
use Rattle.std.specs.List.{cons_option, filter_map, list_any, range_with_len}
use Rattle.std.proofs.lemmas.Bool.{cases_lt}
use Rattle.std.proofs.lemmas.List.Folds.{list_any-append}
use Rattle.he_addr.specs.declared.ip.Family.{Family}
use Rattle.he_addr.specs.declared.ip.Family.TheVariants as families
use Rattle.he_addr.specs.declared.ip.Ip.{Ip}
use Rattle.he_addr.specs.declared.ip.Ip.TheVariants as ips
use Rattle.he_addr.specs.Ip.{family_of, is_usable, same_ip}
use Rattle.he_select.specs.Preference.{Member, members_from, order_of}
use Rattle.he_select.specs.Selection.{SelectionInput}
use Rattle.he_select.proofs.Equality.{ip_self}
use Rattle.he_plan.specs.declared.attempts.Attempt.{Attempt}
use Rattle.he_plan.specs.Attempts.{HasWaited, IsNext, MayFollow, is_untried, order, order_at, received, received_of}
use Rattle.he_timeline.specs.Seen.{IsFree, IsSeen, seen}
use Rattle.he_timeline.specs.Race.{Race, Reply, race_input, reply_of}
use Rattle.he_timeline.specs.Timeline.{IsRace, are_of, is_answer, is_of}
use Rattle.he_plan.proofs.Alternation.{list_any-interlace}
use Rattle.he_timeline.proofs.Bools.{and_both, and_left, and_right, clash, le_from, le_test, or_left, or_one, or_right}
use Rattle.he_timeline.proofs.Seen.{IsSeen-seen}
use Rattle.he_plan.proofs.Starting.{any_filter}

pub found_passes : {X : Type 0} (p : X → Bool) (xs : List X) (y : X) → find p xs ≡ Some y → p y ≡ true
found_passes p [] y h = cc
found_passes p (x ∷ xs) y h = at_head (p x) refl h (found_passes p xs y)
  where
    at_head : (b : Bool) → p x ≡ b → cond b (Some x) (find p xs) ≡ Some y → (find p xs ≡ Some y → p y ≡ true) → p y ≡ true
    at_head true e h rest = let same : x ≡ y = cc in ap p (sym same) ∙ e
    at_head false e h rest = rest h

-- what is found is in the list
found_any : {X : Type 0} (p r : X → Bool) (xs : List X) (y : X) → find p xs ≡ Some y → r y ≡ true → list_any r xs ≡ true
found_any p r [] y h passes = cc
found_any p r (x ∷ xs) y h passes = at_head (p x) h (λ k. found_any p r xs y k passes)
  where
    at_head : (b : Bool) → cond b (Some x) (find p xs) ≡ Some y → (find p xs ≡ Some y → list_any r xs ≡ true) → (r x || list_any r xs) ≡ true
    at_head true h rest = let same : x ≡ y = cc in or_left _ _ (ap r same ∙ passes)
    at_head false h rest = or_right _ _ (rest h)

members_any : (r : Ip → Bool) (n : ℕ) (ips : List Ip) → list_any (λ (m : Member). r m.ip) (members_from n ips) ≡ list_any r ips
members_any r n [] = refl
members_any r n (ip ∷ ips) = ap (λ b. r ip || b) (members_any r (n + 1) ips)

-- members that are found at numbers are members
listed_any : (r : Ip → Bool) (test : ℕ → Member → Bool) (members : List Member) (ns : List ℕ)
    → list_any r (map (λ (m : Member). m.ip) (filter_map (λ n. find (test n) members) ns)) ≡ true → list_any (λ (m : Member). r m.ip) members ≡ true
listed_any r test members [] h = cc
listed_any r test members (n ∷ ns) h = at_head (find (test n) members) refl h (listed_any r test members ns)
  where
    some_of : (m : Member) (rest : Bool) (b : Bool) → find (test n) members ≡ Some m → r m.ip ≡ b → (b || rest) ≡ true
        → (rest ≡ true → list_any (λ (m : Member). r m.ip) members ≡ true) → list_any (λ (m : Member). r m.ip) members ≡ true
    some_of m rest true e passes h more = found_any (test n) (λ (m : Member). r m.ip) members m e passes
    some_of m rest false e passes h more = more h

    at_head : (o : Option Member) → find (test n) members ≡ o
        → list_any r (map (λ (m : Member). m.ip) (cons_option o (filter_map (λ n. find (test n) members) ns))) ≡ true
        → (list_any r (map (λ (m : Member). m.ip) (filter_map (λ n. find (test n) members) ns)) ≡ true → list_any (λ (m : Member). r m.ip) members ≡ true)
        → list_any (λ (m : Member). r m.ip) members ≡ true
    at_head None e h more = more h
    at_head (Some m) e h more = some_of m _ (r m.ip) e refl h more

-- the order of a list has no other addresses
order_any : (r : Ip → Bool) (input : SelectionInput) (ips : List Ip) → list_any r (order_of input ips) ≡ true → list_any r ips ≡ true
unfolding order_of
order_any r input ips h = sym (members_any r 0 ips) ∙ listed_any r _ (members_from 0 ips) (range_with_len 0 _) h

-- the address itself, untried
abbrev is_it : List Attempt → Ip → Ip → Bool
is_it done ip x = is_untried done x && same_ip x ip

-- it was received
it_received : (race : Race) (done : List Attempt) (next : Attempt) → IsNext race done next → list_any (is_it done next.ip) (received race next.tick) ≡ true
it_received race done next is =
    let t : ℕ = next.tick in
    let it : is_it done next.ip next.ip ≡ true = and_both _ _ (found_passes (is_untried done) (order_at race t) next.ip is.ip) (ip_self next.ip) in
    let listed : list_any (is_it done next.ip) (order_at race t) ≡ true = found_any (is_untried done) (is_it done next.ip) (order_at race t) next.ip is.ip it in
    let sorted : list_any (is_it done next.ip) (order race (received race t)) ≡ true =
    sym (list_any-interlace (is_it done next.ip) (order race (received race t)) race.settings.count) ∙ listed
    in
    order_any (is_it done next.ip) (race_input race) (received race t) sorted

any_weaker : (p r : Ip → Bool) → ((x : Ip) → r x ≡ true → p x ≡ true) → (xs : List Ip) → list_any r xs ≡ true → list_any p xs ≡ true
any_weaker p r weaker [] h = cc
any_weaker p r weaker (x ∷ xs) h = elim (or_one (r x) (list_any r xs) h) [
  | inl k ↦ or_left _ _ (weaker x k)
  | inr k ↦ or_right _ _ (any_weaker p r weaker xs k)
]

-- an answer that is seen at t or earlier has an untried address
pub record CameFrom (race : Race) (done : List Attempt) (t : ℕ) (reply : Option Reply) : Type 0 where
  pub come : Reply
  pub is : reply ≡ Some come
  pub early : seen race come.tick ≤ t
  pub waits : list_any (is_untried done) (filter is_usable come.addresses) ≡ true

from_reply : (race : Race) (done : List Attempt) (t : ℕ) (ip : Ip) (reply : Option Reply) → list_any (is_it done ip) (received_of race t reply) ≡ true → CameFrom race done t reply
from_reply race done t ip None h = cc
from_reply race done t ip (Some r) h = by_tick (nat_le (seen race r.tick) t) refl h
  where
    by_tick : (b : Bool) → nat_le (seen race r.tick) t ≡ b → list_any (is_it done ip) (if b then filter is_usable r.addresses else []) ≡ true → CameFrom race done t (Some r)
    by_tick true e h = record {
      come = r;
      is = refl;
      early = le_from (seen race r.tick) t e;
      waits = any_weaker (is_untried done) (is_it done ip) (λ x k. and_left (is_untried done x) (same_ip x ip) k) (filter is_usable r.addresses) h;
    }
    by_tick false e h = cc

-- no address of one family is one of the other
none_of : (family : Family) (r : Ip → Bool) → ((x : Ip) → is_of family x ≡ true → r x ≡ true → ⊥) → (xs : List Ip) → are_of family xs ≡ true → list_any r xs ≡ true → ⊥
none_of family r other [] are h = absurd (clash false h refl)
none_of family r other (x ∷ xs) are h = elim (or_one (r x) (list_any r xs) h) [
  | inl k ↦ other x (and_left (is_of family x) (are_of family xs) are) k
  | inr k ↦ none_of family r other xs (and_right (is_of family x) (are_of family xs) are) k
]

none_received : (race : Race) (family : Family) (r : Ip → Bool) → ((x : Ip) → is_of family x ≡ true → r x ≡ true → ⊥) → (t : ℕ) (reply : Option Reply)
    → is_answer family reply ≡ true → list_any r (received_of race t reply) ≡ true → ⊥
none_received race family r other t None are h = clash false h refl
none_received race family r other t (Some reply) are h = by_tick (nat_le (seen race reply.tick) t) h
  where
    by_tick : (b : Bool) → list_any r (if b then filter is_usable reply.addresses else []) ≡ true → ⊥
    by_tick true h =
        none_of family (λ x. is_usable x && r x) (λ x is k. other x is (and_right (is_usable x) (r x) k)) reply.addresses
        (and_right _ _ (and_left _ _ are)) (sym (any_filter r is_usable reply.addresses) ∙ h)
    by_tick false h = clash false h refl

not_v4 : (done : List Attempt) (n : ℕ) (x : Ip) → is_of families.V4 x ≡ true → is_it done (ips.V6 n) x ≡ true → ⊥
not_v4 done n (ips.V4 m) is h = clash false (and_right (is_untried done (ips.V4 m)) false h) refl
not_v4 done n (ips.V6 m) is h = clash false is refl

not_v6 : (done : List Attempt) (n : ℕ) (x : Ip) → is_of families.V6 x ≡ true → is_it done (ips.V4 n) x ≡ true → ⊥
not_v6 done n (ips.V4 m) is h = clash false is refl
not_v6 done n (ips.V6 m) is h = clash false (and_right (is_untried done (ips.V6 m)) false h) refl

-- the answer of the address's family brought it
own_by : (race : Race) → IsRace race → (done : List Attempt) (t : ℕ) (ip : Ip) → list_any (is_it done ip) (received race t) ≡ true → CameFrom race done t (reply_of race (family_of ip))
own_by race r done t (ips.V6 n) h =
    elim (or_one _ _ (sym (list_any-append (is_it done (ips.V6 n)) (received_of race t race.aaaa) (received_of race t race.a)) ∙ h)) [
      | inl k ↦ from_reply race done t (ips.V6 n) race.aaaa k
      | inr k ↦ absurd (none_received race families.V4 (is_it done (ips.V6 n)) (not_v4 done n) t race.a r.a k)
    ]
own_by race r done t (ips.V4 n) h =
    elim (or_one _ _ (sym (list_any-append (is_it done (ips.V4 n)) (received_of race t race.aaaa) (received_of race t race.a)) ∙ h)) [
      | inl k ↦ absurd (none_received race families.V6 (is_it done (ips.V4 n)) (not_v6 done n) t race.aaaa r.aaaa k)
      | inr k ↦ from_reply race done t (ips.V4 n) race.a k
    ]

pub own_answer : (race : Race) → IsRace race → (done : List Attempt) (next : Attempt) → IsNext race done next → CameFrom race done next.tick (reply_of race (family_of next.ip))
own_answer race r done next is = own_by race r done next.tick next.ip (it_received race done next is)

-- its addresses are received from the tick on at which it is seen
still_waits : (race : Race) (done : List Attempt) (m : ℕ) (reply : Option Reply) (come : Reply) → reply ≡ Some come → seen race come.tick ≤ m
    → list_any (is_untried done) (filter is_usable come.addresses) ≡ true → list_any (is_untried done) (received_of race m reply) ≡ true
still_waits race done m None come is early waits = cc
still_waits race done m (Some r) come is early waits =
    let same : r ≡ come = cc in
    subst (λ (x : Reply). list_any (is_untried done) (received_of race m (Some x)) ≡ true) (sym same)
    (rw (le_test (seen race come.tick) m early) waits)

received_by : (race : Race) (done : List Attempt) (m : ℕ) (family : Family) → list_any (is_untried done) (received_of race m (reply_of race family)) ≡ true
    → list_any (is_untried done) (received race m) ≡ true
received_by race done m families.V6 h = list_any-append (is_untried done) (received_of race m race.aaaa) (received_of race m race.a) ∙ or_left _ _ h
received_by race done m families.V4 h = list_any-append (is_untried done) (received_of race m race.aaaa) (received_of race m race.a) ∙ or_right _ _ h

pub some_at : {X : Type 0} (o : Option X) (x : X) (P : X → Type 0) → o ≡ Some x → P x → IsSomeAnd o P
some_at o x P e h = subst (λ o. IsSomeAnd o P) (sym e) h

-- the answer that brings an address after the wait, which was over at d, is seen at the attempt's tick
pub later_seen : (race : Race) → IsRace race → (done : List Attempt) (last : Attempt) (t : ℕ) (family : Family) (d : ℕ)
    → IsFree race d → d < t → ((m : ℕ) → d ≤ m → HasWaited race done m last)
    → ((s : ℕ) → s < t → ¬ MayFollow race done s last) → CameFrom race done t (reply_of race family)
    → IsSomeAnd (reply_of race family) (λ r. seen race r.tick ≡ t)
later_seen race r done last t family d free over waited none from =
    some_at (reply_of race family) from.come (λ r. seen race r.tick ≡ t) from.is
    (elim (cases_lt (seen race from.come.tick) t) [
      | inr late ↦ omega (arith, late, from.early)
      | inl less ↦ absurd (early less)
    ])
  where
    is-s : IsSeen race from.come.tick (seen race from.come.tick)
    is-s = IsSeen-seen race r from.come.tick

    follows : (m : ℕ) → IsFree race m → d ≤ m → seen race from.come.tick ≤ m → MayFollow race done m last
    follows m free after come = record {
      free = free;
      waited = waited m after;
      some = received_by race done m family (still_waits race done m (reply_of race family) from.come from.is come from.waits);
    }

    early : seen race from.come.tick < t → ⊥
    early less = elim (cases_lt (seen race from.come.tick) d) [
      | inl before ↦ none d over (follows d free (omega arith) (omega (arith, before)))
      | inr after ↦ none (seen race from.come.tick) less (follows (seen race from.come.tick) is-s.holds.1 after (omega arith))
    ]
