-- When the next attempt may start: at a free tick that the answers and the attempts so far allow, pauses not looked
-- at.
use Rattle.std.proofs.Common.{◌≡◌, ℕ, ◌+◌, ◌≤◌, ◌<◌, ◌⊎◌, ◌&&◌, ◌||◌, Bool, true, false, List, [], ◌∷◌, if◌then◌else◌, filter, Option, Some, None, MatchOption, IsSomeAnd, nat_le, min, max, refl, sym, ◌∙◌, arith, inl, inr}
use Rattle.std.specs.List.{list_any}
use Rattle.std.specs.Option.{option_map}
use Rattle.std.proofs.lemmas.List.Folds.{list_any-append}
use Rattle.std.proofs.lemmas.Bool.{cases_lt}
use Rattle.he_addr.specs.declared.ip.Ip.{Ip}
use Rattle.he_addr.specs.Ip.{is_usable}
use Rattle.he_plan.specs.declared.attempts.Attempt.{Attempt}
use Rattle.he_timeline.specs.Seen.{IsLeast, IsFree, IsSeen, seen}
use Rattle.he_plan.specs.Attempts.{received_of, IsAnswered, IsPositive, MayBegin, MayFollow, MayStart, is_untried, last_of}
use Rattle.he_plan.specs.Planning.{earlier, positive_tick, a_begin_tick, waiting_tick, follow_tick, start_after, start_tick, wait_end}
use Rattle.he_timeline.specs.Race.{Race, Reply}
use Rattle.he_timeline.specs.Timeline.{IsRace}
use Rattle.he_timeline.proofs.Bools.{le_test, le_from, or_one, or_left, or_right}
use Rattle.he_plan.proofs.Failing.{waited_from, waited_to}
use Rattle.he_timeline.proofs.Seen.{IsSeen-seen}

-- at a free tick t a tick is seen by t exactly where it is at most t
pub record SeesOwn (race : Race) (t : ℕ) : Type 0 where
  pub own : (x : ℕ) → seen race x ≤ t → x ≤ t
  pub back : (x : ℕ) → x ≤ t → seen race x ≤ t

pub SeesOwn-free : (race : Race) → IsRace race → (t : ℕ) → IsFree race t → SeesOwn race t
SeesOwn-free race r t free = record {
  own = λ x h. let s : IsSeen race x (seen race x) = IsSeen-seen race r x in omega (arith, s.holds.0);
  back = λ x h. let s : IsSeen race x (seen race x) = IsSeen-seen race r x in s.least t (h, free);
}

-- there is a tick, and it is at most t
abbrev pub Reaches : Option ℕ → ℕ → Type 0
Reaches o t = IsSomeAnd o (λ x. x ≤ t)

pub reaches_if : (b : Bool) (x t : ℕ) → Reaches (if b then Some x else None) t → (b ≡ true) × (x ≤ t)
reaches_if true x t h = (refl, h)
reaches_if false x t h = absurd h

pub reaches_then : (b : Bool) (x t : ℕ) → b ≡ true → x ≤ t → Reaches (if b then Some x else None) t
reaches_then true x t e h = h
reaches_then false x t e h = cc

pub earlier_left : (x y : Option ℕ) (t : ℕ) → Reaches x t → Reaches (earlier x y) t
earlier_left None y t h = absurd h
earlier_left (Some x) None t h = h
earlier_left (Some x) (Some y) t h = omega arith

pub earlier_right : (x y : Option ℕ) (t : ℕ) → Reaches y t → Reaches (earlier x y) t
earlier_right None y t h = h
earlier_right (Some x) None t h = absurd h
earlier_right (Some x) (Some y) t h = omega arith

min_one : (x y t : ℕ) → min x y ≤ t → (x ≤ t) ⊎ (y ≤ t)
min_one x y t h = elim (cases_lt x y) [ inl k ↦ inl (omega arith) | inr k ↦ inr (omega arith) ]

pub earlier_one : (x y : Option ℕ) (t : ℕ) → Reaches (earlier x y) t → Reaches x t ⊎ Reaches y t
earlier_one None y t h = inr h
earlier_one (Some x) None t h = inl h
earlier_one (Some x) (Some y) t h = min_one x y t h

positive_to : (race : Race) (t : ℕ) → SeesOwn race t → (reply : Option Reply) → IsPositive race t reply → Reaches (positive_tick reply) t
positive_to race t s None p = absurd p
positive_to race t s (Some r) p = reaches_then (list_any is_usable r.addresses) r.tick t p.0 (s.own r.tick p.1)

positive_from : (race : Race) (t : ℕ) → SeesOwn race t → (reply : Option Reply) → Reaches (positive_tick reply) t → IsPositive race t reply
positive_from race t s None p = absurd p
positive_from race t s (Some r) p =
    let k : (list_any is_usable r.addresses ≡ true) × (r.tick ≤ t) = reaches_if (list_any is_usable r.addresses) r.tick t p in
    (k.0, s.back r.tick k.1)

abbrev BeginsOn : Race → ℕ → Option Reply → Option Reply → Type 0
BeginsOn race t aaaa a = IsPositive race t aaaa ⊎ (IsPositive race t a × (IsAnswered race t aaaa ⊎ IsSomeAnd a (λ r. seen race (r.tick + race.settings.resolution) ≤ t)))

-- the tick from which the A answer begins the race
abbrev pub a_tick : ℕ → Option Reply → Option Reply → Option ℕ
a_tick resolution aaaa a = option_map (a_begin_tick resolution aaaa) (positive_tick a)

pub a_if : (b : Bool) (resolution x t : ℕ) (aaaa : Option Reply) → b ≡ true → a_begin_tick resolution aaaa x ≤ t → Reaches (option_map (a_begin_tick resolution aaaa) (if b then Some x else None)) t
a_if true resolution x t aaaa e h = h
a_if false resolution x t aaaa e h = cc

pub a_from : (b : Bool) (resolution x t : ℕ) (aaaa : Option Reply) → Reaches (option_map (a_begin_tick resolution aaaa) (if b then Some x else None)) t → (b ≡ true) × (a_begin_tick resolution aaaa x ≤ t)
a_from true resolution x t aaaa h = (refl, h)
a_from false resolution x t aaaa h = absurd h

v4_answered : (race : Race) (t : ℕ) → SeesOwn race t → (aaaa : Option Reply) (x : ℕ) → x ≤ t → IsAnswered race t aaaa → a_begin_tick race.settings.resolution aaaa x ≤ t
v4_answered race t s None x h answered = absurd answered
v4_answered race t s (Some r) x h answered = let k : r.tick ≤ t = s.own r.tick answered in omega arith

v4_delayed : (resolution : ℕ) (aaaa : Option Reply) (x t : ℕ) → x + resolution ≤ t → a_begin_tick resolution aaaa x ≤ t
v4_delayed resolution None x t h = h
v4_delayed resolution (Some r) x t h = omega arith

v4_from : (race : Race) (t : ℕ) → SeesOwn race t → (aaaa : Option Reply) (x : ℕ) → a_begin_tick race.settings.resolution aaaa x ≤ t → (x ≤ t) × (IsAnswered race t aaaa ⊎ (seen race (x + race.settings.resolution) ≤ t))
v4_from race t s None x h = (omega arith, inr (s.back (x + race.settings.resolution) h))
v4_from race t s (Some r) x h = elim (min_one (x + race.settings.resolution) (max x r.tick) t h) [
  | inl k ↦ (omega arith, inr (s.back (x + race.settings.resolution) k))
  | inr k ↦ (omega arith, inl (s.back r.tick (omega arith)))
]

begins_to : (race : Race) (t : ℕ) → SeesOwn race t → (aaaa a : Option Reply) → BeginsOn race t aaaa a → Reaches (earlier (positive_tick aaaa) (a_tick race.settings.resolution aaaa a)) t
begins_to race t s aaaa a (inl p) = earlier_left (positive_tick aaaa) (a_tick race.settings.resolution aaaa a) t (positive_to race t s aaaa p)
begins_to race t s aaaa None (inr p) = absurd p.0
begins_to race t s aaaa (Some r) (inr p) =
    earlier_right (positive_tick aaaa) (a_tick race.settings.resolution aaaa (Some r)) t
    (a_if (list_any is_usable r.addresses) race.settings.resolution r.tick t aaaa p.0.0
    (elim p.1 [
      | inl answered ↦ v4_answered race t s aaaa r.tick (s.own r.tick p.0.1) answered
      | inr delayed ↦ v4_delayed race.settings.resolution aaaa r.tick t (s.own (r.tick + race.settings.resolution) delayed)
    ]))

a_begins : (race : Race) (t : ℕ) → SeesOwn race t → (aaaa a : Option Reply) → Reaches (a_tick race.settings.resolution aaaa a) t → BeginsOn race t aaaa a
a_begins race t s aaaa None h = absurd h
a_begins race t s aaaa (Some r) h =
    let k : (list_any is_usable r.addresses ≡ true) × (a_begin_tick race.settings.resolution aaaa r.tick ≤ t) = a_from (list_any is_usable r.addresses) race.settings.resolution r.tick t aaaa h in
    let l : (r.tick ≤ t) × (IsAnswered race t aaaa ⊎ (seen race (r.tick + race.settings.resolution) ≤ t)) = v4_from race t s aaaa r.tick k.1 in
    inr ((k.0, s.back r.tick l.0), l.1)

begins_from : (race : Race) (t : ℕ) → SeesOwn race t → (aaaa a : Option Reply) → Reaches (earlier (positive_tick aaaa) (a_tick race.settings.resolution aaaa a)) t → BeginsOn race t aaaa a
begins_from race t s aaaa a h = elim (earlier_one (positive_tick aaaa) (a_tick race.settings.resolution aaaa a) t h) [
  | inl k ↦ inl (positive_from race t s aaaa k)
  | inr k ↦ a_begins race t s aaaa a k
]

pub any_filter : (p q : Ip → Bool) (ips : List Ip) → list_any p (filter q ips) ≡ list_any (λ ip. q ip && p ip) ips
any_filter p q [] = refl
any_filter p q (ip ∷ ips) = any_by (q ip) (any_filter p q ips)
  where
    any_by : (b : Bool) → list_any p (filter q ips) ≡ list_any (λ x. q x && p x) ips → list_any p (if b then ip ∷ filter q ips else filter q ips) ≡ ((b && p ip) || list_any (λ x. q x && p x) ips)
    any_by true e = rw e
    any_by false e = e

abbrev waits : List Attempt → Reply → Bool
waits done r = list_any (λ ip. is_usable ip && is_untried done ip) r.addresses

waits_to : (race : Race) (t : ℕ) → SeesOwn race t → (done : List Attempt) (from : ℕ) (reply : Option Reply) → from ≤ t → list_any (is_untried done) (received_of race t reply) ≡ true → Reaches (waiting_tick done from reply) t
waits_to race t s done from None h some = cc
waits_to race t s done from (Some r) h some = waits_by (nat_le (seen race r.tick) t) refl some
  where
    waits_by : (b : Bool) → nat_le (seen race r.tick) t ≡ b → list_any (is_untried done) (if b then filter is_usable r.addresses else []) ≡ true → Reaches (waiting_tick done from (Some r)) t
    waits_by true by some =
        let here : r.tick ≤ t = s.own r.tick (le_from _ _ by) in
        reaches_then (waits done r) (max from r.tick) t (sym (any_filter (is_untried done) is_usable r.addresses) ∙ some) (omega arith)
    waits_by false by some = cc

waits_from : (race : Race) (t : ℕ) → SeesOwn race t → (done : List Attempt) (from : ℕ) (reply : Option Reply) → Reaches (waiting_tick done from reply) t → (from ≤ t) × (list_any (is_untried done) (received_of race t reply) ≡ true)
waits_from race t s done from None h = absurd h
waits_from race t s done from (Some r) h =
    let k : (waits done r ≡ true) × (max from r.tick ≤ t) = reaches_if (waits done r) (max from r.tick) t h in
    let by : nat_le (seen race r.tick) t ≡ true = le_test _ _ (s.back r.tick (omega arith)) in
    (omega arith, rw by (any_filter (is_untried done) is_usable r.addresses ∙ k.0))

follows_to : (race : Race) (t : ℕ) → t < race.settings.limit → SeesOwn race t → (done : List Attempt) (last : Attempt) → MayFollow race done t last → Reaches (follow_tick race done last) t
follows_to race t early s done last m =
    let from : ℕ = wait_end race done last in
    let by : from ≤ t = waited_to race t early done last m.waited in
    elim (or_one _ _ (sym (list_any-append (is_untried done) (received_of race t race.aaaa) (received_of race t race.a)) ∙ m.some)) [
      | inl k ↦ earlier_left (waiting_tick done from race.aaaa) (waiting_tick done from race.a) t (waits_to race t s done from race.aaaa by k)
      | inr k ↦ earlier_right (waiting_tick done from race.aaaa) (waiting_tick done from race.a) t (waits_to race t s done from race.a by k)
    ]

follows_from : (race : Race) (t : ℕ) → t < race.settings.limit → SeesOwn race t → IsFree race t → (done : List Attempt) (last : Attempt) → Reaches (follow_tick race done last) t → MayFollow race done t last
follows_from race t early s free done last h =
    let from : ℕ = wait_end race done last in
    elim (earlier_one (waiting_tick done from race.aaaa) (waiting_tick done from race.a) t h) [
      | inl k ↦ let w : (from ≤ t) × (list_any (is_untried done) (received_of race t race.aaaa) ≡ true) = waits_from race t s done from race.aaaa k in
          record { free = free; waited = waited_from race t early done last w.0; some = list_any-append (is_untried done) (received_of race t race.aaaa) (received_of race t race.a) ∙ or_left _ _ w.1 }
      | inr k ↦ let w : (from ≤ t) × (list_any (is_untried done) (received_of race t race.a) ≡ true) = waits_from race t s done from race.a k in
          record { free = free; waited = waited_from race t early done last w.0; some = list_any-append (is_untried done) (received_of race t race.aaaa) (received_of race t race.a) ∙ or_right _ _ w.1 }
    ]

-- an attempt may start at a free tick below the limit, from the start tick on
pub record StartsAt (race : Race) (done : List Attempt) (t : ℕ) : Type 0 where
  pub early : t < race.settings.limit
  pub free : IsFree race t
  pub reached : Reaches (start_tick race done) t

starts_to : (race : Race) → IsRace race → (done : List Attempt) (t : ℕ) → t < race.settings.limit → (last : Option Attempt) → MatchOption last (MayBegin race t) (MayFollow race done t) → IsFree race t × Reaches (start_after race done last) t
starts_to race r done t early None m = (m.0, begins_to race t (SeesOwn-free race r t m.0) race.aaaa race.a m.1)
starts_to race r done t early (Some last) m = (m.free, follows_to race t early (SeesOwn-free race r t m.free) done last m)

pub starts_from : (race : Race) → IsRace race → (done : List Attempt) (t : ℕ) → t < race.settings.limit → (last : Option Attempt) → IsFree race t → Reaches (start_after race done last) t → MatchOption last (MayBegin race t) (MayFollow race done t)
starts_from race r done t early None free h = (free, begins_from race t (SeesOwn-free race r t free) race.aaaa race.a h)
starts_from race r done t early (Some last) free h = follows_from race t early (SeesOwn-free race r t free) free done last h

pub StartsAt-MayStart : (race : Race) → IsRace race → (done : List Attempt) (t : ℕ) → MayStart race done t → StartsAt race done t
StartsAt-MayStart race r done t m =
    let k : IsFree race t × Reaches (start_tick race done) t = starts_to race r done t m.0 (last_of done) m.1 in
    record { early = m.0; free = k.0; reached = k.1 }

pub MayStart-StartsAt : (race : Race) → IsRace race → (done : List Attempt) (t : ℕ) → StartsAt race done t → MayStart race done t
MayStart-StartsAt race r done t s = (s.early, starts_from race r done t s.early (last_of done) s.free s.reached)

-- the least tick at which an attempt may start is where the start tick is seen, if that is below the limit
pub starts_at : (race : Race) → IsRace race → (done : List Attempt) (x : ℕ) → start_tick race done ≡ Some x → seen race x < race.settings.limit → IsLeast (MayStart race done) (seen race x)
starts_at race r done x e early =
    let s : IsSeen race x (seen race x) = IsSeen-seen race r x in
    record {
      holds = MayStart-StartsAt race r done (seen race x) (record { early = early; free = s.holds.1; reached = rw e s.holds.0 });
      least = λ m may. let k : StartsAt race done m = StartsAt-MayStart race r done m may in s.least m (rw e at k.reached, k.free);
    }

pub none_starts_late : (race : Race) → IsRace race → (done : List Attempt) (x : ℕ) → start_tick race done ≡ Some x → race.settings.limit ≤ seen race x → (t : ℕ) → ¬ MayStart race done t
none_starts_late race r done x e late t may =
    let k : StartsAt race done t = StartsAt-MayStart race r done t may in
    let s : IsSeen race x (seen race x) = IsSeen-seen race r x in
    let l : seen race x ≤ t = s.least t (rw e at k.reached, k.free) in
    omega (arith, k.early)

pub none_starts : (race : Race) → IsRace race → (done : List Attempt) → start_tick race done ≡ None → (t : ℕ) → ¬ MayStart race done t
none_starts race r done e t may = let k : StartsAt race done t = StartsAt-MayStart race r done t may in rw e at k.reached
