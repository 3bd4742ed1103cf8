-- The course of a race: all that is reported of it, made once.
use Rattle.std.specs.Prelude.{ℕ, ◌≡◌, if◌then◌else◌, List, [], ◌∷◌, count_by, nat_lt, option_map, take, Option, Some, None}
use Rattle.std.specs.Option.{option_map_or}
use Rattle.he_addr.specs.declared.ip.Family.{Family}
use Rattle.he_addr.specs.declared.ip.Family.TheVariants as families
use Rattle.he_addr.specs.declared.ip.Ip.{Ip}
use Rattle.he_addr.specs.Ip.{is_usable}
use Rattle.he_plan.specs.declared.transcript.Line.{Line}
use Rattle.he_timeline.specs.Seen.{seen}
use Rattle.he_timeline.specs.Race.{Race, Reply}
use Rattle.he_plan.specs.Transcript.{IsTranscript, Report}
use Rattle.he_course.specs.declared.accounts.Times.{Times}
use Rattle.he_course.specs.declared.course.Course.{Course}
use Rattle.he_course.specs.declared.course.Seen.{Seen}
use Rattle.he_course.specs.declared.events.Event.{Event}
use Rattle.he_course.specs.Accounts.{IsAccount, end_of}
use Rattle.he_course.specs.Addresses.{preferred}
use Rattle.he_course.specs.Amounts.{lost_of, times_of}
use Rattle.he_course.specs.Events.{events_by_kind}
use Rattle.he_course.specs.LeastFloor.{IsSooner, ended_of}

-- inserts an event after those of its tick and of earlier ones
abbrev pub put_event : Event → List Event → List Event
put_event event [] = event ∷ []
put_event event (first ∷ more) =
    if nat_lt event.tick first.tick then event ∷ first ∷ more else first ∷ put_event event more

-- inserts events one after the other
abbrev pub put_events : List Event → List Event → List Event
put_events done [] = done
put_events done (event ∷ more) = put_events (put_event event done) more

-- the events up to the race's end by tick, those of one tick by kind, those of one kind in their given order
abbrev pub events_in : Race → Report → List Event
events_in race report = put_events [] (events_by_kind race report)

-- when the client sees an answer, and how many usable addresses it has
abbrev pub seen_of : Race → Option Reply → Option Seen
seen_of race reply =
    option_map (λ r. record { tick = seen race r.tick; usable = count_by is_usable r.addresses }) reply

-- the value is the course of the race that has this number in its input and begins at this line of it, and whose
-- client did not try these addresses
pub record IsRecordedCourse {A : Type 0} (race : Race) (untried : List Ip) (number line : ℕ)
    (course : Course A) : Type 0 where
  pub numbered : course.number ≡ number
  pub begins : course.line ≡ line
  pub transcript : IsTranscript race course.transcript
  pub aaaa : course.aaaa ≡ seen_of race race.aaaa
  pub a : course.a ≡ seen_of race race.a
  pub addresses : course.addresses.items ≡ preferred race
  pub ended : course.ended ≡ ended_of course.transcript
  pub sooner : IsSooner race course.transcript course.sooner
  pub events : course.events.items ≡ events_in race course.transcript
  pub account : IsAccount race course.transcript untried course.account
  pub lost : course.account.lost ≡ lost_of course.account
  pub delay : course.delay ≡ race.settings.attempt

-- the same of a race without a record
abbrev pub IsCourse : {A : Type 0} → Race → ℕ → ℕ → Course A → Type 0
IsCourse race number line course = IsRecordedCourse race [] number line course

-- its times
abbrev pub course_times : {A : Type 0} → Course A → Times
course_times course = times_of (end_of course.transcript) course.account

-- the answer of a family
abbrev pub answer_of : {A : Type 0} → Course A → Family → Option Seen
answer_of course families.V6 = course.aaaa
answer_of course families.V4 = course.a

-- what a won race lost, by its account
abbrev pub lost : {A : Type 0} → Course A → Option ℕ
lost course = option_map (λ winner. course.account.lost) course.ended.winner

-- the attempts before the winner's, which had failed or were running when it started
abbrev pub before_winner : {A : Type 0} → Course A → List Line
before_winner course = option_map_or (λ line. take line.place course.transcript.lines) course.ended.winner []
