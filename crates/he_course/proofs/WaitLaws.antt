-- The client waits for the AAAA answer just where its first attempt starts after the A answer is seen.
use Rattle.std.proofs.Common.{◌≡◌, ℕ, ◌+◌, ◌<◌, ◌≤◌, ◌&&◌, Bool, true, false, not, refl, sym, ap, subst, arith, inl, inr, nat_lt}
use Rattle.std.specs.Prelude.{Option, None, Some, IsSomeAnd, IsTrue}
use Rattle.std.specs.List.{list_any}
use Rattle.std.proofs.lemmas.Bool.{cases_Bool, cases_lt}
use Rattle.he_addr.specs.Ip.{is_usable}
use Rattle.he_plan.specs.Attempts.{IsAnswered, IsDelayOver, IsPositive, MayBegin}
use Rattle.he_timeline.specs.Seen.{IsSeen, seen}
use Rattle.he_timeline.specs.Race.{Race, Reply}
use Rattle.he_timeline.specs.Timeline.{IsRace}
use Rattle.he_timeline.proofs.Bools.{clash, le_from, le_test, lt_from, lt_test}
use Rattle.he_timeline.proofs.Seen.{IsSeen-seen}
use Rattle.he_course.specs.Events.{is_seen_by, is_waiting}
use Rattle.he_course.specs.Laws.{WaitsStand}

answered : (race : Race) (t : ℕ) (reply : Option Reply) → IsPositive race t reply → IsAnswered race t reply
answered race t None p = absurd p
answered race t (Some r) p = p.1

-- an answer that is seen earlier is seen
seen_by : (race : Race) (t s : ℕ) (reply : Option Reply) → t ≤ s → IsAnswered race t reply → is_seen_by race s reply ≡ true
seen_by race t s None less is = absurd is
seen_by race t s (Some r) less is = le_test (seen race r.tick) s (omega (arith, less, is))

answered_by : (race : Race) (s : ℕ) (reply : Option Reply) → is_seen_by race s reply ≡ true → IsAnswered race s reply
answered_by race s None h = cc
answered_by race s (Some r) h = le_from (seen race r.tick) s h

not_true : (b : Bool) → not b ≡ true → b ≡ false
not_true false h = refl
not_true true h = cc

two_of_three : (a b c : Bool) → (a && b && c) ≡ true → (b ≡ true) × (c ≡ true)
two_of_three true true true h = (refl, refl)
two_of_three true true false h = cc
two_of_three true false c h = cc
two_of_three false b c h = cc

three : (a b c : Bool) → a ≡ true → b ≡ true → c ≡ true → (a && b && c) ≡ true
three a b c ha hb hc = cc

later : (race : Race) → IsRace race → (a : Reply) → race.a ≡ Some a → IsTrue (is_waiting race a) → (t : ℕ) → MayBegin race t → seen race a.tick < t
later race r a e waits t may =
    let s : ℕ = seen race a.tick in
    let parts = two_of_three (list_any is_usable a.addresses) (nat_lt s (a.tick + race.settings.resolution)) (not (is_seen_by race s race.aaaa)) waits in
    let early : s < a.tick + race.settings.resolution = lt_from s (a.tick + race.settings.resolution) parts.0 in
    let unseen : is_seen_by race s race.aaaa ≡ false = not_true (is_seen_by race s race.aaaa) parts.1 in
    elim (cases_lt s t) [
      | inl less ↦ less
      | inr more ↦ absurd (elim may.1 [
        | inl six ↦ clash (is_seen_by race s race.aaaa) (seen_by race t s race.aaaa more (answered race t race.aaaa six)) unseen
        | inr four ↦ elim four.1 [
          | inl six ↦ clash (is_seen_by race s race.aaaa) (seen_by race t s race.aaaa more six) unseen
          | inr over ↦
              let here : seen race (a.tick + race.settings.resolution) ≤ t =
              subst (λ (o : Option Reply). IsSomeAnd o (λ r. seen race (r.tick + race.settings.resolution) ≤ t)) e over
              in
              let end : IsSeen race (a.tick + race.settings.resolution) (seen race (a.tick + race.settings.resolution)) = IsSeen-seen race r (a.tick + race.settings.resolution) in
              omega (arith, here, end.holds.0, early, more)
        ]
      ])
    ]

waits : (race : Race) → IsRace race → (a : Reply) → race.a ≡ Some a → list_any is_usable a.addresses ≡ true → (MayBegin race (seen race a.tick) → ⊥) → IsTrue (is_waiting race a)
waits race r a e usable never =
    let s : ℕ = seen race a.tick in
    let own : IsSeen race a.tick s = IsSeen-seen race r a.tick in
    let positive : IsPositive race s race.a = subst (IsPositive race s) (sym e) (usable, omega arith) in
    let early : nat_lt s (a.tick + race.settings.resolution) ≡ true =
    elim (cases_lt s (a.tick + race.settings.resolution)) [
      | inl less ↦ lt_test s (a.tick + race.settings.resolution) less
      | inr more ↦
          let end : IsSeen race (a.tick + race.settings.resolution) (seen race (a.tick + race.settings.resolution)) = IsSeen-seen race r (a.tick + race.settings.resolution) in
          let over : IsDelayOver race s =
          subst (λ (o : Option Reply). IsSomeAnd o (λ r. seen race (r.tick + race.settings.resolution) ≤ s)) (sym e) (end.least s (more, own.holds.1))
          in
          absurd (never (own.holds.1, inr (positive, inr over)))
    ]
    in
    let unseen : not (is_seen_by race s race.aaaa) ≡ true =
    elim (cases_Bool (is_seen_by race s race.aaaa)) [
      | inl come ↦ absurd (never (own.holds.1, inr (positive, inl (answered_by race s race.aaaa come))))
      | inr none ↦ ap not none
    ]
    in
    three (list_any is_usable a.addresses) (nat_lt s (a.tick + race.settings.resolution)) (not (is_seen_by race s race.aaaa)) usable early unseen

pub waits_stand : WaitsStand
waits_stand race r a e usable next is = (
  λ waiting. later race r a e waiting next.tick is.tick.holds.1,
  λ less. waits race r a e usable
      (λ may. let limit : next.tick < race.settings.limit = is.tick.holds.0 in
      let first : next.tick ≤ seen race a.tick = is.tick.least (seen race a.tick) (omega (arith, less, limit), may) in
      omega (arith, less, first)),
)
