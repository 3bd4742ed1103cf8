-- Events put in order.
use Rattle.std.proofs.Common.{◌≡◌, ℕ, suc, ◌+◌, Bool, true, false, List, [], ◌∷◌, if◌then◌else◌, refl, ◌∙◌, ap, arith, nat_lt}
use Rattle.std.specs.List.{insert}
use Rattle.he_course.specs.declared.events.Event.{Event}
use Rattle.he_course.specs.Course.{put_event}

-- the number of events before the first one that is later than the tick
abbrev pub event_place : ℕ → List Event → ℕ
event_place tick [] = 0
event_place tick (first ∷ more) = if nat_lt tick first.tick then 0 else event_place tick more + 1

plus_one : (n : ℕ) → n + 1 ≡ suc n
plus_one n = omega arith

put_by : (b : Bool) (event first : Event) (more : List Event) → insert more (event_place event.tick more) event ≡ put_event event more
    → insert (first ∷ more) (if b then 0 else event_place event.tick more + 1) event ≡ (if b then event ∷ first ∷ more else first ∷ put_event event more)
put_by true event first more e = refl
put_by false event first more e = ap (λ n. insert (first ∷ more) n event) (plus_one (event_place event.tick more)) ∙ ap (λ l. first ∷ l) e

-- where the event is put
pub inserted : (event : Event) (events : List Event) → insert events (event_place event.tick events) event ≡ put_event event events
inserted event [] = refl
inserted event (first ∷ more) = put_by (nat_lt event.tick first.tick) event first more (inserted event more)
