-- The tick from which the next attempt may start, by the queue alone: where an address is left, the end of the delay;
-- where none is, what an answer that was not seen by the last start allows.
use Rattle.std.proofs.Common.{◌≡◌, ℕ, ◌≤◌, ◌<◌, ◌&&◌, ◌||◌, Bool, true, false, List, [], ◌∷◌, length, Option, Some, None, MatchOption, option_map, if◌then◌else◌, max, refl, sym, ◌∙◌, ap, arith, inl, inr}
use Rattle.std.specs.List.{list_any}
use Rattle.std.proofs.lemmas.List.Folds.{list_any-append}
use Rattle.he_addr.specs.Ip.{same_ip, is_usable}
use Rattle.he_addr.specs.declared.ip.Family.{Family}
use Rattle.he_addr.specs.declared.ip.Family.TheVariants as families
use Rattle.he_addr.specs.declared.ip.Ip.{Ip}
use Rattle.he_addr.specs.declared.ip.Ip.TheVariants.{V4, V6}
use Rattle.he_plan.specs.declared.attempts.Attempt.{Attempt}
use Rattle.he_timeline.specs.Seen.{IsSeen, seen}
use Rattle.he_plan.specs.Attempts.{is_tried, is_untried, last_of}
use Rattle.he_plan.specs.Planning.{earlier, waiting_tick, late_tick, start_after, start_tick, is_received, part_of, parts_of, wait_end}
use Rattle.he_timeline.specs.Race.{Race, Reply}
use Rattle.he_timeline.specs.Timeline.{IsRace, is_of, are_of, is_answer}
use Rattle.he_plan.specs.RaceState.{IsOwn, IsQueue, UntriedValues, was_received}
use Rattle.he_timeline.proofs.Bools.{and_left, and_right, or_none, or_left_none, or_right_none, or_one, le_from}
use Rattle.he_plan.proofs.Distinct.{none_counted}
use Rattle.he_plan.proofs.Failing.{wait_after}
use Rattle.he_plan.proofs.Queued.{any_counted, left_is}
use Rattle.he_timeline.proofs.Seen.{IsSeen-seen}
use Rattle.he_plan.proofs.Starting.{any_filter}

-- addresses of two families differ
apart : (family : Family) (x y : Ip) → is_of family x ≡ false → is_of family y ≡ true → same_ip x y ≡ false
apart families.V6 (V4 m) (V4 n) h k = cc
apart families.V6 (V4 m) (V6 n) h k = refl
apart families.V6 (V6 m) y h k = cc
apart families.V4 (V6 m) (V6 n) h k = cc
apart families.V4 (V6 m) (V4 n) h k = refl
apart families.V4 (V4 m) y h k = cc

not_tried : (family : Family) (done : List Attempt) (ip : Ip) → list_any (λ (x : Attempt). is_of family x.ip) done ≡ false → is_of family ip ≡ true → is_tried done ip ≡ false
not_tried family [] ip none of = refl
not_tried family (x ∷ done) ip none of =
    or_none _ _ (apart family x.ip ip (or_left_none _ _ none) of) (not_tried family done ip (or_right_none _ _ none) of)

-- where no attempt is of a family, each of its usable addresses is untried
all_untried : (family : Family) (done : List Attempt) (ips : List Ip) → list_any (λ (x : Attempt). is_of family x.ip) done ≡ false → are_of family ips ≡ true → list_any (λ ip. is_usable ip && is_untried done ip) ips ≡ list_any is_usable ips
all_untried family done [] none of = refl
all_untried family done (ip ∷ ips) none of =
    let out : is_tried done ip ≡ false = not_tried family done ip none (and_left _ _ of) in
    let rest : list_any (λ x. is_usable x && is_untried done x) ips ≡ list_any is_usable ips = all_untried family done ips none (and_right _ _ of) in
    rw (out, rest) (and_true (is_usable ip) (list_any is_usable ips))
  where
    and_true : (a b : Bool) → ((a && true) || b) ≡ (a || b)
    and_true true b = refl
    and_true false b = refl

-- where no included address is untried, only an answer that is not included is waited for
late_is : (family : Family) (included : Bool) (reply : Option Reply) (done : List Attempt) (from : ℕ) → is_answer family reply ≡ true → IsOwn family included done → list_any (is_untried done) (part_of included reply) ≡ false → late_tick included from reply ≡ waiting_tick done from reply
late_is family true None done from answer own none = refl
late_is family false None done from answer own none = refl
late_is family true (Some reply) done from answer own none =
    let out : list_any (λ ip. is_usable ip && is_untried done ip) reply.addresses ≡ false = sym (any_filter (is_untried done) is_usable reply.addresses) ∙ none in
    rw out
late_is family false (Some reply) done from answer own none =
    let all : list_any (λ ip. is_usable ip && is_untried done ip) reply.addresses ≡ list_any is_usable reply.addresses = all_untried family done reply.addresses (own refl) (and_right _ _ (and_left _ _ answer)) in
    rw all (late_by (list_any is_usable reply.addresses))
  where
    late_by : (b : Bool) → option_map (λ tick. max from tick) (if b then Some reply.tick else None) ≡ (if b then Some (max from reply.tick) else None)
    late_by true = refl
    late_by false = refl

-- an included address that is untried waits for the delay alone
delay_is : (race : Race) → IsRace race → (done : List Attempt) (last : Attempt) (from : ℕ) (included : Bool) (reply : Option Reply) → last.tick ≤ from → included ≡ is_received race last.tick reply → list_any (is_untried done) (part_of included reply) ≡ true → waiting_tick done from reply ≡ Some from
delay_is race r done last from included None after is some = cc
delay_is race r done last from false (Some reply) after is some = cc
delay_is race r done last from true (Some reply) after is some =
    let s : IsSeen race reply.tick (seen race reply.tick) = IsSeen-seen race r reply.tick in
    let by : seen race reply.tick ≤ last.tick = le_from _ _ (sym is) in
    let e : max from reply.tick ≡ from = omega (arith, s.holds.0) in
    let waits : list_any (λ ip. is_usable ip && is_untried done ip) reply.addresses ≡ true = sym (any_filter (is_untried done) is_usable reply.addresses) ∙ some in
    rw (waits, e)

-- no address waits for less than the delay
no_earlier : (done : List Attempt) (from : ℕ) (reply : Option Reply) → MatchOption (waiting_tick done from reply) (Unit {0}) (λ t. from ≤ t)
no_earlier done from None = tt
no_earlier done from (Some reply) = no_by (list_any (λ ip. is_usable ip && is_untried done ip) reply.addresses)
  where
    no_by : (b : Bool) → MatchOption (if b then Some (max from reply.tick) else None) (Unit {0}) (λ t. from ≤ t)
    no_by true = omega arith
    no_by false = tt

earlier_first : (from : ℕ) (x y : Option ℕ) → x ≡ Some from → MatchOption y (Unit {0}) (λ t. from ≤ t) → Some from ≡ earlier x y
earlier_first from x y e late = sym (ap (λ o. earlier o y) e ∙ first_by y late)
  where
    first_by : (y : Option ℕ) → MatchOption y (Unit {0}) (λ t. from ≤ t) → earlier (Some from) y ≡ Some from
    first_by None late = refl
    first_by (Some t) late = ap Some (let k : from ≤ t = late in omega arith)

earlier_last : (from : ℕ) (x y : Option ℕ) → y ≡ Some from → MatchOption x (Unit {0}) (λ t. from ≤ t) → Some from ≡ earlier x y
earlier_last from x y e late = sym (ap (earlier x) e ∙ last_by x late)
  where
    last_by : (x : Option ℕ) → MatchOption x (Unit {0}) (λ t. from ≤ t) → earlier x (Some from) ≡ Some from
    last_by None late = refl
    last_by (Some t) late = ap Some (let k : from ≤ t = late in omega arith)

pub follows_delay : (race : Race) → IsRace race → (done : List Attempt) (last : Attempt) (queue : UntriedValues) → last_of done ≡ Some last → IsQueue race done queue → 0 < length queue.ips → Some (wait_end race done last) ≡ start_tick race done
follows_delay race r done last queue is q below =
    let from : ℕ = wait_end race done last in
    let some : list_any (is_untried done) (parts_of race queue.v6 queue.v4) ≡ true = any_counted (is_untried done) (parts_of race queue.v6 queue.v4) (omega (arith, left_is race done queue q.rest)) in
    let either : (list_any (is_untried done) (part_of queue.v6 race.aaaa) || list_any (is_untried done) (part_of queue.v4 race.a)) ≡ true = sym (list_any-append (is_untried done) (part_of queue.v6 race.aaaa) (part_of queue.v4 race.a)) ∙ some in
    elim (or_one _ _ either) [
      | inl h ↦ earlier_first from (waiting_tick done from race.aaaa) (waiting_tick done from race.a) (delay_is race r done last from queue.v6 race.aaaa (wait_after race done last) (q.six ∙ ap (λ o. was_received race o race.aaaa) is) h) (no_earlier done from race.a)
      | inr h ↦ earlier_last from (waiting_tick done from race.aaaa) (waiting_tick done from race.a) (delay_is race r done last from queue.v4 race.a (wait_after race done last) (q.four ∙ ap (λ o. was_received race o race.a) is) h) (no_earlier done from race.aaaa)
    ]
    ∙ sym (ap (start_after race done) is)

pub follows_late : (race : Race) → IsRace race → (done : List Attempt) (last : Attempt) (queue : UntriedValues) → last_of done ≡ Some last → IsQueue race done queue → length queue.ips ≤ 0 → earlier (late_tick queue.v6 (wait_end race done last) race.aaaa) (late_tick queue.v4 (wait_end race done last) race.a) ≡ start_tick race done
follows_late race r done last queue is q over =
    let from : ℕ = wait_end race done last in
    let none : list_any (is_untried done) (parts_of race queue.v6 queue.v4) ≡ false = none_counted (is_untried done) (parts_of race queue.v6 queue.v4) (omega (arith, left_is race done queue q.rest)) in
    let neither : (list_any (is_untried done) (part_of queue.v6 race.aaaa) || list_any (is_untried done) (part_of queue.v4 race.a)) ≡ false = sym (list_any-append (is_untried done) (part_of queue.v6 race.aaaa) (part_of queue.v4 race.a)) ∙ none in
    ap (λ o. earlier o (late_tick queue.v4 from race.a)) (late_is families.V6 queue.v6 race.aaaa done from r.aaaa q.rest.own_six (or_left_none _ _ neither))
    ∙ ap (earlier (waiting_tick done from race.aaaa)) (late_is families.V4 queue.v4 race.a done from r.a q.rest.own_four (or_right_none _ _ neither))
    ∙ sym (ap (start_after race done) is)
