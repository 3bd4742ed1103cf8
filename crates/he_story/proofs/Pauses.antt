-- A pause that is too short for a line is found among the short ones alone.
use Rattle.std.proofs.Common.{◌≡◌, ℕ, ◌-◌, ◌==◌, Bool, true, false, cond, List, [], ◌∷◌, Some, filter, find, refl, sym, ◌∙◌, ap, inl, inr, ◌&&◌}
use Rattle.std.specs.Option.{option_map}
use Rattle.std.proofs.lemmas.Bool.{cases_Bool, false≢true}
use Rattle.he_course.specs.declared.events.Event.{Event}
use Rattle.he_course.specs.declared.events.EventKind.{EventKind}
use Rattle.he_course.specs.declared.events.EventKind.TheVariants as kinds
use Rattle.he_story.specs.Lines.{is_short, is_short_to, late_at, short_pauses}

found_in : {X : Type 0} (p q : X → Bool) → ((x : X) → p x ≡ true → q x ≡ true) → (xs : List X) → find p (filter q xs) ≡ find p xs
found_in p q first [] = refl
found_in {X} p q first (x ∷ xs) =
    let rest : find p (filter q xs) ≡ find p xs = found_in p q first xs in
    elim (cases_Bool (q x)) [
      | inl held ↦ ap (λ (b : Bool). find p (cond b (x ∷ filter q xs) (filter q xs))) held ∙ ap (cond (p x) (Some x)) rest
      | inr dropped ↦ elim (cases_Bool (p x)) [
        | inl is ↦ absurd (false≢true (sym dropped ∙ first x is))
        | inr other ↦ ap (λ (b : Bool). find p (cond b (x ∷ filter q xs) (filter q xs))) dropped ∙ rest ∙ sym (ap (λ (b : Bool). cond b (Some x) (find p xs)) other)
      ]
    ]

second : (a b : Bool) → (a && b) ≡ true → b ≡ true
second true b is = is
second false b is = absurd (false≢true is)

short_first : (until tick : ℕ) (kind : EventKind) → is_short_to until tick kind ≡ true → is_short tick kind ≡ true
short_first until tick (kinds.Paused end) is = second (end == until) _ is
short_first until tick (kinds.Answered family count) is = is
short_first until tick (kinds.Waits end) is = is
short_first until tick kinds.DelayOver is = is
short_first until tick (kinds.Started start) is = is
short_first until tick (kinds.Failed place) is = is
short_first until tick (kinds.Won place) is = is
short_first until tick (kinds.Cancelled place) is = is
short_first until tick kinds.Exhausted is = is
short_first until tick kinds.Limit is = is

pub among_short : (events : List Event) (until : ℕ) → late_at (short_pauses events) until ≡ late_at events until
among_short events until =
    ap (option_map (λ (pause : Event). until - pause.tick)) (found_in
    (λ (event : Event). is_short_to until event.tick event.kind) (λ (event : Event). is_short event.tick event.kind)
    (λ event is. short_first until event.tick event.kind is) events)
