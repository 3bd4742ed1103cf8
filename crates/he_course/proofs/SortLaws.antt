-- A stable sort by tick puts events in the order in which they are put one after the other.
use Rattle.std.proofs.Common.{◌≡◌, ℕ, zero, suc, ◌<◌, ◌≤◌, ◌++◌, Bool, true, false, cond, List, [], ◌∷◌, length, get_or, filter, if◌then◌else◌, nat_cmp, nat_lt, is_lt, refl, sym, ap, ◌∙◌, append_assoc, arith, inl, inr, suc-le-suc, zero-le}
use Rattle.std.proofs.lemmas.Bool.{cond-true, cond-false, cases_Bool}
use Rattle.std.proofs.lemmas.Bool.Decides.{nat_tests}
use Rattle.std.proofs.lemmas.List.{append-nil}
use Rattle.std.proofs.lemmas.List.Elements.{filter-append}
use Rattle.std.proofs.lemmas.List.Sorted.{IsNonDecreasingBy-short}
use Rattle.std.specs.List.Sorted.{ties, IsNonDecreasingBy, IsStableByKey}
use Rattle.he_timeline.proofs.Bools.{lt_from}
use Rattle.he_course.specs.declared.events.Event.{Event}
use Rattle.he_course.specs.Course.{put_event, put_events}
use Rattle.he_course.proofs.CourseLaws.{put_ascends, puts_ascend, tick_of_event}

abbrev same_tick : Event → Event → Bool
same_tick = ties (λ x y. is_lt (nat_cmp x.tick y.tick))

ties_at : (m n : ℕ) → (ties (λ x y. is_lt (nat_cmp x y)) m n ≡ true → m ≡ n) × (m ≡ n → ties (λ x y. is_lt (nat_cmp x y)) m n ≡ true)
ties_at m n = (λ h. grind (arith, nat_tests), λ h. grind (arith, nat_tests))

same_tick-true : (x y : Event) → same_tick x y ≡ true → x.tick ≡ y.tick
same_tick-true x y = (ties_at x.tick y.tick).0

same_tick_from : (x y : Event) → x.tick ≡ y.tick → same_tick x y ≡ true
same_tick_from x y = (ties_at x.tick y.tick).1

kept : (p : Event → Bool) (y : Event) (ys : List Event) → p y ≡ true → filter p (y ∷ ys) ≡ y ∷ filter p ys
kept p y ys h = cond-true _ _ _ h

dropped : (p : Event → Bool) (y : Event) (ys : List Event) → p y ≡ false → filter p (y ∷ ys) ≡ filter p ys
dropped p y ys h = cond-false _ _ _ h

abbrev AreAtLeast : ℕ → List Event → Type 0
AreAtLeast n [] = Unit {0}
AreAtLeast n (y ∷ ys) = (n ≤ y.tick) × AreAtLeast n ys

abbrev Rises : List Event → Type 0
Rises [] = Unit {0}
Rises (y ∷ ys) = AreAtLeast y.tick ys × Rises ys

AreAtLeast-le : (n m : ℕ) (ys : List Event) → n ≤ m → AreAtLeast m ys → AreAtLeast n ys
AreAtLeast-le n m [] le h = tt
AreAtLeast-le n m (y ∷ ys) le h = let first = h.0 in (omega arith, AreAtLeast-le n m ys le h.1)

AreAtLeast-at : (n : ℕ) (d : Event) (ys : List Event) → ((j : ℕ) → j < length ys → n ≤ (get_or ys j d).tick) → AreAtLeast n ys
AreAtLeast-at n d [] h = tt
AreAtLeast-at n d (y ∷ ys) h = (h zero (suc-le-suc zero-le), AreAtLeast-at n d ys (λ j lt. h (suc j) (suc-le-suc lt)))

rises : (ys : List Event) → IsNonDecreasingBy tick_of_event ys → Rises ys
rises [] h = tt
rises (y ∷ ys) h = (
  AreAtLeast-at y.tick y ys (λ j lt. h zero (suc j) y zero-le (suc-le-suc lt)),
  rises ys (λ i j d le lt. h (suc i) (suc j) d (suc-le-suc le) (suc-le-suc lt)),
)

-- no later event is of the tick
none_later : (x : Event) (ys : List Event) → AreAtLeast (suc x.tick) ys → filter (same_tick x) ys ≡ []
none_later x [] h = refl
none_later x (y ∷ ys) h =
    elim (cases_Bool (same_tick x y)) [
      | inl with ↦ absurd (omega (arith, h.0, same_tick-true x y with))
      | inr without ↦ dropped (same_tick x) y ys without ∙ none_later x ys h.1
    ]

-- in front of later events an event stands with those of its tick as after them
in_front : (x event : Event) (later : List Event) → AreAtLeast (suc event.tick) later → filter (same_tick x) (event ∷ later) ≡ filter (same_tick x) (later ++ event ∷ [])
in_front x event later h =
    elim (cases_Bool (same_tick x event)) [
      | inl with ↦
          let none : filter (same_tick x) later ≡ [] = none_later x later (AreAtLeast-le (suc x.tick) (suc event.tick) later (omega (arith, same_tick-true x event with)) h) in
          kept (same_tick x) event later with ∙ ap (λ l. event ∷ l) none
          ∙ sym (filter-append (same_tick x) later (event ∷ []) ∙ ap (λ l. l ++ filter (same_tick x) (event ∷ [])) none ∙ kept (same_tick x) event [] with)
      | inr without ↦
          dropped (same_tick x) event later without
          ∙ sym (filter-append (same_tick x) later (event ∷ []) ∙ ap (λ l. filter (same_tick x) later ++ l) (dropped (same_tick x) event [] without) ∙ append-nil (filter (same_tick x) later))
    ]

put_stable : (x event : Event) (events : List Event) → Rises events → filter (same_tick x) (put_event event events) ≡ filter (same_tick x) (events ++ event ∷ [])
put_stable x event [] up = refl
put_stable x event (first ∷ more) up = by_tick (nat_lt event.tick first.tick) refl (put_stable x event more up.1)
  where
    by_tick : (b : Bool) → nat_lt event.tick first.tick ≡ b → filter (same_tick x) (put_event event more) ≡ filter (same_tick x) (more ++ event ∷ [])
        → filter (same_tick x) (if b then event ∷ first ∷ more else first ∷ put_event event more) ≡ filter (same_tick x) (first ∷ (more ++ event ∷ []))
    by_tick true e rest =
        let before : event.tick < first.tick = lt_from event.tick first.tick e in
        in_front x event (first ∷ more) (omega (arith, before), AreAtLeast-le (suc event.tick) first.tick more (omega (arith, before)) up.0)
    by_tick false e rest = ap (λ l. cond (same_tick x first) (first ∷ l) l) rest

puts_stable : (x : Event) (done events : List Event) → IsNonDecreasingBy tick_of_event done → filter (same_tick x) (put_events done events) ≡ filter (same_tick x) (done ++ events)
puts_stable x done [] up = ap (filter (same_tick x)) (sym (append-nil done))
puts_stable x done (event ∷ more) up =
    puts_stable x (put_event event done) more (put_ascends event done up)
    ∙ filter-append (same_tick x) (put_event event done) more
    ∙ ap (λ l. l ++ filter (same_tick x) more) (put_stable x event done (rises done up))
    ∙ sym (filter-append (same_tick x) (done ++ event ∷ []) more)
    ∙ ap (filter (same_tick x)) (append_assoc done (event ∷ []) more)

-- an event of the tick is among them
AreAtLeast-found : (n : ℕ) (x : Event) (ys : List Event) (w : Event) (ws : List Event) → AreAtLeast n ys → filter (same_tick x) ys ≡ w ∷ ws → n ≤ x.tick
AreAtLeast-found n x [] w ws h e = cc
AreAtLeast-found n x (y ∷ ys) w ws h e =
    elim (cases_Bool (same_tick x y)) [
      | inl with ↦ omega (arith, h.0, same_tick-true x y with)
      | inr without ↦ AreAtLeast-found n x ys w ws h.1 (sym (dropped (same_tick x) y ys without) ∙ e)
    ]

same_from_ticks : (ys zs : List Event) → Rises ys → Rises zs → ((x : Event) → filter (same_tick x) ys ≡ filter (same_tick x) zs) → ys ≡ zs
same_from_ticks [] [] left right same = refl
same_from_ticks [] (z ∷ zs) left right same =
    let clash = same z ∙ kept (same_tick z) z zs (same_tick_from z z refl) in cc
same_from_ticks (y ∷ ys) [] left right same =
    let clash = sym (same y) ∙ kept (same_tick y) y ys (same_tick_from y y refl) in cc
same_from_ticks (y ∷ ys) (z ∷ zs) left right same =
    let at_y = kept (same_tick y) y ys (same_tick_from y y refl) in
    let at_z = kept (same_tick z) z zs (same_tick_from z z refl) in
    let up = AreAtLeast-found z.tick y (z ∷ zs) y _ (omega arith, right.0) (sym (same y) ∙ at_y) in
    let down = AreAtLeast-found y.tick z (y ∷ ys) z _ (omega arith, left.0) (same z ∙ at_z) in
    let heads = sym at_y ∙ same y ∙ kept (same_tick y) z zs (same_tick_from y z (omega arith)) in
    let head : y ≡ z = cc in
    let tails : (x : Event) → filter (same_tick x) ys ≡ filter (same_tick x) zs =
    λ x. elim (cases_Bool (same_tick x y)) [
      | inl with ↦
          let both = sym (kept (same_tick x) y ys with) ∙ same x ∙ kept (same_tick x) z zs (ap (same_tick x) (sym head) ∙ with) in cc
      | inr without ↦
          sym (dropped (same_tick x) y ys without) ∙ same x ∙ dropped (same_tick x) z zs (ap (same_tick x) (sym head) ∙ without)
    ] in
    ap (λ w. w ∷ ys) head ∙ ap (λ l. z ∷ l) (same_from_ticks ys zs left.1 right.1 tails)

pub puts-from_sort : (xs ys : List Event) → IsNonDecreasingBy tick_of_event ys → IsStableByKey tick_of_event nat_cmp xs ys → ys ≡ put_events [] xs
puts-from_sort xs ys sorted stable =
    let none : IsNonDecreasingBy tick_of_event [] = IsNonDecreasingBy-short tick_of_event [] (omega arith) in
    same_from_ticks ys (put_events [] xs) (rises ys sorted) (rises (put_events [] xs) (puts_ascend [] xs none))
    (λ x. stable x ∙ sym (puts_stable x [] xs none))
