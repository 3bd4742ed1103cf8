-- A course has the events of its race, by tick.
use Rattle.std.proofs.Common.{◌≡◌, ℕ, zero, suc, ◌+◌, ◌<◌, ◌≤◌, Bool, true, false, List, [], ◌∷◌, ◌++◌, length, get_or, if◌then◌else◌, refl, sym, subst, arith, nat_lt}
use Rattle.std.specs.List.Sorted.{IsNonDecreasingBy, IsPermutation}
use Rattle.std.proofs.lemmas.List.{append-nil}
use Rattle.std.proofs.lemmas.List.Sorted.{IsNonDecreasingBy-insert, IsNonDecreasingBy-short, IsPermutation-append_right, IsPermutation-insert, IsPermutation-middle, IsPermutation-refl, IsPermutation-sym, IsPermutation-trans}
use Rattle.he_timeline.proofs.Bools.{lt_from}
use Rattle.he_course.specs.declared.events.Event.{Event}
use Rattle.he_course.specs.Course.{events_in, put_event, put_events}
use Rattle.he_course.specs.Events.{events_by_kind}
use Rattle.he_course.specs.Laws.{CourseStands}
use Rattle.he_course.proofs.CauseLaws.{not_before}
use Rattle.he_course.proofs.EventLaws.{event_place, inserted}

abbrev pub tick_of_event : Event → ℕ
tick_of_event event = event.tick

-- no event before the place is later than the tick, and the one at the place is
record IsPlace (tick : ℕ) (events : List Event) (place : ℕ) : Type 0 where
  inside : place ≤ length events
  before : (k : ℕ) (d : Event) → k < place → (get_or events k d).tick ≤ tick
  at : (d : Event) → place < length events → tick < (get_or events place d).tick

plus_one : (n : ℕ) → n + 1 ≡ suc n
plus_one n = omega arith

further : (tick : ℕ) (first : Event) (more : List Event) (place : ℕ) → first.tick ≤ tick → IsPlace tick more place → IsPlace tick (first ∷ more) (suc place)
further tick first more place early rest = record { inside = omega (arith, rest.inside); before = before; at = λ d inside. rest.at d (omega (arith, inside)) }
  where
    before : (k : ℕ) (d : Event) → k < suc place → (get_or (first ∷ more) k d).tick ≤ tick
    before zero d h = early
    before (suc k) d h = rest.before k d (omega (arith, h))

place_is : (tick : ℕ) (events : List Event) → IsPlace tick events (event_place tick events)
place_is tick [] = record { inside = omega arith; before = λ k d h. absurd (omega (arith, h)); at = λ d h. absurd (omega (arith, h)) }
place_is tick (first ∷ more) = by_tick (nat_lt tick first.tick) refl (place_is tick more)
  where
    by_tick : (b : Bool) → nat_lt tick first.tick ≡ b → IsPlace tick more (event_place tick more) → IsPlace tick (first ∷ more) (if b then 0 else event_place tick more + 1)
    by_tick true e rest = record { inside = omega arith; before = λ k d h. absurd (omega (arith, h)); at = λ d h. lt_from tick first.tick e }
    by_tick false e rest =
        subst (λ n. IsPlace tick (first ∷ more) n) (sym (plus_one (event_place tick more)))
        (further tick first more (event_place tick more) (not_before tick first.tick e) rest)

pub put_ascends : (event : Event) (events : List Event) → IsNonDecreasingBy tick_of_event events → IsNonDecreasingBy tick_of_event (put_event event events)
put_ascends event events up =
    let place : ℕ = event_place event.tick events in
    let is : IsPlace event.tick events place = place_is event.tick events in
    subst (IsNonDecreasingBy tick_of_event) (inserted event events)
    (IsNonDecreasingBy-insert tick_of_event events place event up is.inside is.before
    (λ k d from inside. let first : event.tick < (get_or events place d).tick = is.at d (omega (arith, from, inside)) in
    omega (arith, first, up place k d from inside)))

pub puts_ascend : (done events : List Event) → IsNonDecreasingBy tick_of_event done → IsNonDecreasingBy tick_of_event (put_events done events)
puts_ascend done [] up = up
puts_ascend done (event ∷ more) up = puts_ascend (put_event event done) more (put_ascends event done up)

put_moves : (event : Event) (events : List Event) → IsPermutation (event ∷ events) (put_event event events)
put_moves event events = subst (IsPermutation (event ∷ events)) (inserted event events) (IsPermutation-insert events (event_place event.tick events) event)

puts_move : (done events : List Event) → IsPermutation (events ++ done) (put_events done events)
puts_move done [] = IsPermutation-refl done
puts_move done (event ∷ more) =
    let put : IsPermutation (more ++ (event ∷ done)) (more ++ put_event event done) =
    IsPermutation-append_right more (event ∷ done) (put_event event done) (put_moves event done)
    in
    IsPermutation-trans (event ∷ (more ++ done)) (more ++ (event ∷ done)) (put_events (put_event event done) more)
    (IsPermutation-sym (more ++ (event ∷ done)) (event ∷ (more ++ done)) (IsPermutation-middle more event done))
    (IsPermutation-trans (more ++ (event ∷ done)) (more ++ put_event event done) (put_events (put_event event done) more) put (puts_move (put_event event done) more))

pub course_stands : CourseStands
course_stands race report = (
  subst (λ events. IsPermutation events (events_in race report)) (append-nil (events_by_kind race report)) (puts_move [] (events_by_kind race report)),
  puts_ascend [] (events_by_kind race report) (IsNonDecreasingBy-short tick_of_event [] (omega arith)),
)
