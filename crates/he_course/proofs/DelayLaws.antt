-- The end of the Resolution Delay is among the events of a course just where it is among those of the wait.
use Rattle.std.proofs.Common.{◌≡◌, ℕ, ◌++◌, Bool, true, false, ◌&&◌, ◌||◌, cond, List, [], ◌∷◌, filter, refl, sym, ◌∙◌, ap, inl, inr}
use Rattle.std.specs.Prelude.{Option, None, Some}
use Rattle.std.specs.List.{flat_map, list_any}
use Rattle.std.proofs.Math.Bool.{and-true, and-false}
use Rattle.std.proofs.lemmas.Bool.{cases_Bool}
use Rattle.std.proofs.lemmas.List.Folds.{list_any-append}
use Rattle.std.proofs.lemmas.List.Sorted.{list_any-IsPermutation}
use Rattle.he_addr.specs.declared.ip.Family.{Family}
use Rattle.he_addr.specs.declared.ip.Family.TheVariants as families
use Rattle.he_timeline.specs.Race.{Race, Reply}
use Rattle.he_plan.specs.declared.attempts.Attempt.{Attempt}
use Rattle.he_plan.specs.declared.transcript.Line.{Line}
use Rattle.he_plan.specs.declared.transcript.Mark.{Mark}
use Rattle.he_plan.specs.declared.transcript.Mark.TheVariants as marks
use Rattle.he_plan.specs.declared.transcript.Outcome3.{Outcome3}
use Rattle.he_plan.specs.declared.transcript.Outcome3.TheVariants as results
use Rattle.he_plan.specs.Transcript.{Report}
use Rattle.he_course.specs.declared.events.Event.{Event}
use Rattle.he_course.specs.Causes.{failure_of, later_of}
use Rattle.he_course.specs.Course.{events_in}
use Rattle.he_course.specs.Events.{answer_events, attempt_of, cancelled_by, comes_by, end_event, events_by_kind, events_of, failed_by, is_delay_over, met_events, pause_events, start_events, told_events, wait_events}
use Rattle.he_course.proofs.CourseLaws.{course_stands}

abbrev over_by : ℕ → Event → Bool
over_by end event = is_delay_over event.kind && comes_by end event.tick event.kind

any_kept : (p q : Event → Bool) (xs : List Event) → list_any p (filter q xs) ≡ list_any (λ x. p x && q x) xs
any_kept p q [] = refl
any_kept p q (x ∷ xs) =
    elim (cases_Bool (q x)) [
      | inl kept ↦
          ap (list_any p) (ap (λ b. cond b (x ∷ filter q xs) (filter q xs)) kept) ∙ ap (λ b. p x || b) (any_kept p q xs)
          ∙ ap (λ b. b || list_any (λ y. p y && q y) xs) (sym (ap (λ b. p x && b) kept ∙ and-true (p x)))
      | inr out ↦
          ap (list_any p) (ap (λ b. cond b (x ∷ filter q xs) (filter q xs)) out) ∙ any_kept p q xs
          ∙ ap (λ b. b || list_any (λ y. p y && q y) xs) (sym (ap (λ b. p x && b) out ∙ and-false (p x)))
    ]

neither : (a b : Bool) → a ≡ false → b ≡ false → (a || b) ≡ false
neither a b ha hb = cc

-- in none of these lists it is, so neither in both, one after the other
none_in : (p : Event → Bool) (xs ys : List Event) → list_any p xs ≡ false → list_any p ys ≡ false → list_any p (xs ++ ys) ≡ false
none_in p xs ys left right = list_any-append p xs ys ∙ neither (list_any p xs) (list_any p ys) left right

pauses_none : (end : ℕ) (pauses : List (ℕ × ℕ)) → list_any (over_by end) (pause_events pauses) ≡ false
pauses_none end [] = refl
pauses_none end (pause ∷ more) = pauses_none end more

answer_none : (end : ℕ) (race : Race) (family : Family) (reply : Option Reply) → list_any (over_by end) (answer_events race family reply) ≡ false
answer_none end race family None = refl
answer_none end race family (Some reply) = refl

fails_none : (end : ℕ) (lines : List Line) → list_any (over_by end) (flat_map (λ (line : Line). failed_by line.place line.mark) lines) ≡ false
fails_none end [] = refl
fails_none end (line ∷ more) =
    none_in (over_by end) (failed_by line.place line.mark) (flat_map (λ (l : Line). failed_by l.place l.mark) more) (by_mark line.mark) (fails_none end more)
  where
    by_mark : (mark : Mark) → list_any (over_by end) (failed_by line.place mark) ≡ false
    by_mark (marks.Failed tick) = refl
    by_mark (marks.Won tick) = refl
    by_mark (marks.Cancelled tick) = refl

cancels_none : (end : ℕ) (lines : List Line) → list_any (over_by end) (flat_map (λ (line : Line). cancelled_by line.place line.mark) lines) ≡ false
cancels_none end [] = refl
cancels_none end (line ∷ more) =
    none_in (over_by end) (cancelled_by line.place line.mark) (flat_map (λ (l : Line). cancelled_by l.place l.mark) more) (by_mark line.mark) (cancels_none end more)
  where
    by_mark : (mark : Mark) → list_any (over_by end) (cancelled_by line.place mark) ≡ false
    by_mark (marks.Failed tick) = refl
    by_mark (marks.Won tick) = refl
    by_mark (marks.Cancelled tick) = refl

starts_none : (end : ℕ) (race : Race) (last : Option Attempt) (failed : Option ℕ) (lines : List Line) → list_any (over_by end) (start_events race last failed lines) ≡ false
starts_none end race last failed [] = refl
starts_none end race last failed (line ∷ more) =
    starts_none end race (Some (attempt_of line)) (later_of failed (failure_of race (attempt_of line))) more

end_none : (end : ℕ) (result : Outcome3) → over_by end (end_event result) ≡ false
end_none end (results.Won place tick) = refl
end_none end (results.Exhausted tick) = refl
end_none end (results.Limit tick) = refl

told_none : (end : ℕ) (race : Race) (report : Report) → list_any (over_by end) (told_events race report) ≡ false
told_none end race report =
    none_in (over_by end) (flat_map (λ (line : Line). failed_by line.place line.mark) report.lines ++ start_events race None (Some 0) report.lines)
    (end_event report.result ∷ flat_map (λ (line : Line). cancelled_by line.place line.mark) report.lines)
    (none_in (over_by end) (flat_map (λ (line : Line). failed_by line.place line.mark) report.lines) (start_events race None (Some 0) report.lines) (fails_none end report.lines) (starts_none end race None (Some 0) report.lines))
    (neither _ _ (end_none end report.result) (cancels_none end report.lines))

met_waits : (end : ℕ) (race : Race) → list_any (over_by end) (met_events race) ≡ list_any (over_by end) (wait_events race race.a)
met_waits end race =
    let answers : List Event = answer_events race families.V6 race.aaaa ++ answer_events race families.V4 race.a in
    list_any-append (over_by end) (pause_events race.pauses ++ answers) (wait_events race race.a)
    ∙ ap (λ b. b || list_any (over_by end) (wait_events race race.a))
    (none_in (over_by end) (pause_events race.pauses) answers (pauses_none end race.pauses)
    (none_in (over_by end) (answer_events race families.V6 race.aaaa) (answer_events race families.V4 race.a) (answer_none end race families.V6 race.aaaa) (answer_none end race families.V4 race.a)))

or_false : (b : Bool) → (b || false) ≡ b
or_false true = refl
or_false false = refl

pub delay_over_in : (race : Race) (report : Report) → list_any (λ (event : Event). is_delay_over event.kind) (events_in race report)
    ≡ list_any (λ (event : Event). is_delay_over event.kind && comes_by (end_event report.result).tick event.tick event.kind) (wait_events race race.a)
delay_over_in race report =
    let end : ℕ = (end_event report.result).tick in
    let over : Event → Bool = λ event. is_delay_over event.kind in
    sym (list_any-IsPermutation over (events_by_kind race report) (events_in race report) (course_stands race report).0)
    ∙ any_kept over (λ event. comes_by end event.tick event.kind) (events_of race report)
    ∙ list_any-append (over_by end) (met_events race) (told_events race report)
    ∙ ap (λ b. list_any (over_by end) (met_events race) || b) (told_none end race report)
    ∙ or_false (list_any (over_by end) (met_events race))
    ∙ met_waits end race
