-- The object that explains a race, by its course.
use Rattle.std.proofs.Common.{ℕ, List, subst}
use Rattle.std.specs.Prelude.{None, Result, Ok, Err, OnOk}
use Rattle.he_timeline.specs.Race.{Race}
use Rattle.he_course.specs.Addresses.{preferred}
use Rattle.he_course.specs.Course.{IsRecordedCourse, course_times, events_in}
use Rattle.he_course.specs.declared.accounts.Times.{Times}
use Rattle.he_course.proofs.AccountLaws.{account_times}
use Rattle.he_course.specs.declared.addresses.Preferred.{Preferred}
use Rattle.he_course.specs.declared.course.Course.{Course}
use Rattle.he_course.specs.declared.events.Event.{Event}
use Rattle.he_json.specs.Documents.{Appends, IsExplanationJson}
use Rattle.he_record.specs.Given.{untried_given}
use Rattle.he_record.specs.Said.{Said}
use Rattle.he_c.specs.Outputs.{IsExplanationText}
use Rattle.he_c.specs.Telling.{WritesText}

pub explanation_written : {A R E : Type 0} (result : Result R E) (said : List Said) (race : Race) (number line : ℕ) (course : Course A) (old new : List ℕ) → IsRecordedCourse race (untried_given said) number line course
    → OnOk result (Appends (IsExplanationJson (record { file = None; number = course.number; line = course.line }) said (course_times course) course.addresses.items course.events.items) old new)
    → OnOk result (WritesText (λ told. IsExplanationText number line told said race) old new)
explanation_written (Ok done) said race number line course old new is (text, told, appended) =
    let Numbered : ℕ → Type 0 = λ n. IsExplanationJson (record { file = None; number = n; line = course.line }) said (course_times course) course.addresses.items course.events.items text in
    let Lined : ℕ → Type 0 = λ l. IsExplanationJson (record { file = None; number = number; line = l }) said (course_times course) course.addresses.items course.events.items text in
    let Ordered : List Preferred → Type 0 = λ order. IsExplanationJson (record { file = None; number = number; line = line }) said (course_times course) order course.events.items text in
    let Met : List Event → Type 0 = λ met. IsExplanationJson (record { file = None; number = number; line = line }) said (course_times course) (preferred race) met text in
    let Timed : Times → Type 0 = λ times. IsExplanationJson (record { file = None; number = number; line = line }) said times (preferred race) (events_in race course.transcript) text in
    let times = account_times race course.transcript (untried_given said) course.account is.account is.lost in
    let whole = subst Timed times (subst Met is.events (subst Ordered is.addresses (subst Lined is.begins (subst Numbered is.numbered told)))) in
    record { told = text; is_told = (course.transcript, is.transcript, whole); appended = appended }
explanation_written (Err fault) said race number line course old new is none = none
