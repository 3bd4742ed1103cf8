-- Where a race's attempts leave room for one more, no address that is received is left.
use Rattle.std.proofs.Common.{◌≡◌, ℕ, ◌+◌, ◌≤◌, ◌<◌, ◌&&◌, ◌||◌, Bool, true, false, not, List, [], ◌∷◌, max, Option, Some, None, MatchOption, nat_le, refl, sym, ◌∙◌, subst, arith, inl}
use Rattle.std.specs.List.{list_any, list_all}
use Rattle.std.proofs.lemmas.List.Folds.{list_any-append}
use Rattle.he_addr.specs.declared.ip.Ip.{Ip}
use Rattle.he_addr.specs.Ip.{is_usable}
use Rattle.he_plan.specs.declared.attempts.Attempt.{Attempt}
use Rattle.he_plan.specs.Attempts.{AreAttempts, MayBegin, MayFollow, is_tried, is_untried, last_of, received, received_of}
use Rattle.he_timeline.specs.Seen.{IsFree, IsSeen, seen}
use Rattle.he_plan.specs.Planning.{has_room}
use Rattle.he_timeline.specs.Race.{Race, Reply}
use Rattle.he_timeline.specs.Timeline.{IsRace}
use Rattle.he_plan.specs.Transcript.{is_tried_out}
use Rattle.he_timeline.proofs.Bools.{le_test, lt_from, or_left_none, or_right_none}
use Rattle.he_plan.proofs.Starting.{SeesOwn, SeesOwn-free, any_filter}
use Rattle.he_timeline.proofs.Seen.{IsSeen-seen}

none_left : (attempts : List Attempt) (ips : List Ip) → list_any (λ ip. is_usable ip && is_untried attempts ip) ips ≡ false → list_all (λ ip. not (is_usable ip) || is_tried attempts ip) ips ≡ true
none_left attempts [] none = refl
none_left attempts (ip ∷ ips) none =
    let here : (not (is_usable ip) || is_tried attempts ip) ≡ true = tried (is_usable ip) (is_tried attempts ip) (or_left_none _ _ none) in
    let rest : list_all (λ x. not (is_usable x) || is_tried attempts x) ips ≡ true = none_left attempts ips (or_right_none _ _ none) in
    rw (here, rest)
  where
    tried : (a b : Bool) → (a && not b) ≡ false → (not a || b) ≡ true
    tried true true h = refl
    tried true false h = cc
    tried false b h = refl

received_tried : (race : Race) (attempts : List Attempt) (t : ℕ) (reply : Reply) → seen race reply.tick ≤ t → list_any (is_untried attempts) (received_of race t (Some reply)) ≡ false → is_tried_out attempts reply ≡ true
received_tried race attempts t reply seen_by none =
    let by : nat_le (seen race reply.tick) t ≡ true = le_test _ _ seen_by in
    none_left attempts reply.addresses (sym (any_filter (is_untried attempts) is_usable reply.addresses) ∙ (rw by at none))

-- at a free tick below the limit, past the delay
none_untried : (race : Race) (attempts : List Attempt) (last : Attempt) (t : ℕ) → AreAttempts race attempts → last_of attempts ≡ Some last → t < race.settings.limit → IsFree race t → last.tick + race.settings.attempt ≤ t → list_any (is_untried attempts) (received race t) ≡ false
none_untried race attempts last t are is early free delay = none_by (list_any (is_untried attempts) (received race t)) refl
  where
    none_by : (b : Bool) → list_any (is_untried attempts) (received race t) ≡ b → b ≡ false
    none_by false e = refl
    none_by true e = absurd (are.no_more t (early, subst (λ (o : Option Attempt). MatchOption o (MayBegin race t) (MayFollow race attempts t)) (sym is) (record { free = free; waited = inl delay; some = e })))

pub all_tried : (race : Race) → IsRace race → (attempts : List Attempt) (aaaa a : Reply) (answered : ℕ) → aaaa.tick ≤ answered → a.tick ≤ answered → AreAttempts race attempts → race.aaaa ≡ Some aaaa → race.a ≡ Some a → has_room race answered (last_of attempts) ≡ true → true ≡ (is_tried_out attempts aaaa && is_tried_out attempts a)
all_tried race r attempts aaaa a answered after6 after4 are six four room = tried_by (last_of attempts) refl room
  where
    both : (x y : Bool) → x ≡ true → y ≡ true → true ≡ (x && y)
    both true y e f = sym f
    both false y e f = cc

    tried_by : (o : Option Attempt) → last_of attempts ≡ o → has_room race answered o ≡ true → true ≡ (is_tried_out attempts aaaa && is_tried_out attempts a)
    tried_by None is room = cc
    tried_by (Some last) is room =
        let from : ℕ = max (last.tick + race.settings.attempt) answered in
        let s : IsSeen race from (seen race from) = IsSeen-seen race r from in
        let o : SeesOwn race (seen race from) = SeesOwn-free race r (seen race from) s.holds.1 in
        let none : list_any (is_untried attempts) (received race (seen race from)) ≡ false = none_untried race attempts last (seen race from) are is (lt_from _ _ room) s.holds.1 (omega (arith, s.holds.0)) in
        let neither : (list_any (is_untried attempts) (received_of race (seen race from) race.aaaa) || list_any (is_untried attempts) (received_of race (seen race from) race.a)) ≡ false = sym (list_any-append (is_untried attempts) (received_of race (seen race from) race.aaaa) (received_of race (seen race from) race.a)) ∙ none in
        both _ _
        (received_tried race attempts (seen race from) aaaa (o.back aaaa.tick (omega (arith, s.holds.0))) (subst (λ (x : Option Reply). list_any (is_untried attempts) (received_of race (seen race from) x) ≡ false) six (or_left_none _ _ neither)))
        (received_tried race attempts (seen race from) a (o.back a.tick (omega (arith, s.holds.0))) (subst (λ (x : Option Reply). list_any (is_untried attempts) (received_of race (seen race from) x) ≡ false) four (or_right_none _ _ neither)))
