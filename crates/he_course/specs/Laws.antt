-- Consequences of the definitions.
use Rattle.std.specs.Prelude.{ℕ, ◌≡◌, ◌≢◌, ◌+◌, ◌==◌, ◌&&◌, ◌++◌, ◌<◌, ◌≤◌, ◌↔◌, Bool, true, false, List, [], ◌∷◌, max, slice_get, take, Option, Some, None, IsSomeAnd, IsTrue, IsFalse}
use Rattle.std.specs.List.{count_by, list_all, list_any}
use Rattle.std.specs.List.Sorted.{IsNonDecreasingBy, IsPermutation}
use Rattle.he_addr.specs.declared.ip.Ip.{Ip}
use Rattle.he_addr.specs.Ip.{family_of, is_usable, same_ip}
use Rattle.he_plan.specs.declared.attempts.Attempt.{Attempt}
use Rattle.he_plan.specs.Attempts.{HasWaited, HaveFailed, IsAnswered, IsNext, is_tried, is_untried, last_of, order_at, received}
use Rattle.he_timeline.specs.Seen.{IsFree, IsLeast, seen}
use Rattle.he_timeline.specs.Race.{Race, Reply, reply_of}
use Rattle.he_timeline.specs.Timeline.{IsRace}
use Rattle.he_plan.specs.declared.transcript.Line.{Line}
use Rattle.he_plan.specs.declared.transcript.Mark.{Mark}
use Rattle.he_plan.specs.declared.transcript.Mark.TheVariants as marks
use Rattle.he_plan.specs.Transcript.{IsTranscript, Report}
use Rattle.he_select.specs.Deciding.{DecidesAt, deciding_rule, rules_in_order}
use Rattle.he_select.specs.Preference.{Member}
use Rattle.he_select.specs.Selection.{SelectionInput}
use Rattle.he_course.specs.declared.cause.Cause.{Cause}
use Rattle.he_course.specs.declared.events.Event.{Event}
use Rattle.he_course.specs.declared.events.EventKind.{EventKind}
use Rattle.he_course.specs.declared.events.EventKind.TheVariants.{Started, Won, Failed, Cancelled}
use Rattle.he_course.specs.declared.cause.Cause.TheVariants.{AaaaAnswer, BothAnswers, ResolutionDelay, AttemptDelay, Floor, LastFailure, LaterAnswer}
use Rattle.he_course.specs.Causes.{cause_of, due_of, last_failure}
use Rattle.he_course.specs.Course.{events_in}
use Rattle.he_course.specs.Events.{events_by_kind, is_waiting, start_event, start_events}
use Rattle.he_course.specs.Listing.{listed_at}

-- one rule decides between the two: the rule that is reported
pub record IsOneRule (input : SelectionInput) (a b : Member) (place : ℕ) : Type 0 where
  pub decides : DecidesAt input a b place
  pub only : (other : ℕ) → DecidesAt input a b other → other ≡ place
  pub named : slice_get rules_in_order place ≡ Some (deciding_rule input a.ip b.ip)

-- this holds between members at different places
abbrev pub OneRuleDecides : Type 0
OneRuleDecides = (input : SelectionInput) (a b : Member) → a.place ≢ b.place → (place : ℕ) × IsOneRule input a b place

-- the first attempt of a race, at t, has this cause: the AAAA answer, with a usable address, is seen at t; or it has
-- none, and the later one of both is seen at t; or it is not seen by t, and the Resolution Delay is over at t
abbrev pub IsFirstBy : Race → ℕ → Cause → Type 0
IsFirstBy race t AaaaAnswer =
    IsSomeAnd race.aaaa (λ r. IsTrue (list_any is_usable r.addresses) × (seen race r.tick ≡ t))
IsFirstBy race t BothAnswers =
    IsSomeAnd race.aaaa (λ six. IsFalse (list_any is_usable six.addresses)
    × IsSomeAnd race.a
    (λ four. IsTrue (list_any is_usable four.addresses) × (max (seen race six.tick) (seen race four.tick) ≡ t)))
IsFirstBy race t ResolutionDelay =
    ¬ IsAnswered race t race.aaaa
    × IsSomeAnd race.a
    (λ r. IsTrue (list_any is_usable r.addresses) × (seen race (r.tick + race.settings.resolution) ≡ t))
IsFirstBy race t (AttemptDelay place delay) = ⊥
IsFirstBy race t (Floor place floor) = ⊥
IsFirstBy race t (LastFailure tick) = ⊥
IsFirstBy race t (LaterAnswer family) = ⊥

-- a floor is set, and at t every attempt so far has failed and that floor has passed since the last start, but the
-- Connection Attempt Delay has not
abbrev pub IsByFloor : Race → List Attempt → ℕ → Attempt → ℕ → Type 0
IsByFloor race done t last floor =
    (race.settings.floor ≡ Some floor) × HaveFailed race done t × (last.tick + floor ≤ t)
    × (t < last.tick + race.settings.attempt)

-- the wait after the last attempt was not over at any earlier tick at which the client could act
abbrev pub IsFirstWait : Race → List Attempt → Attempt → ℕ → Type 0
IsFirstWait race done last tick = (t : ℕ) → IsFree race t → HasWaited race done t last → tick ≤ t

-- a later attempt has this cause: the Connection Attempt Delay after the last one is over at its tick, and nothing
-- let it start before; or that delay is not over, but every attempt so far has failed, and the floor after the last
-- one is over at that tick; or they have failed by that tick and by no earlier one; or the wait after the last one
-- was over before, the answer of the address's family is seen at the attempt's tick, and at no earlier one at which
-- the client could act and, the wait being over, a received address was untried
abbrev pub IsLaterBy : Race → List Attempt → Attempt → Attempt → Cause → Type 0
IsLaterBy race done last next AaaaAnswer = ⊥
IsLaterBy race done last next BothAnswers = ⊥
IsLaterBy race done last next ResolutionDelay = ⊥
IsLaterBy race done last next (AttemptDelay place delay) =
    (place ≡ last.place) × (delay ≡ race.settings.attempt) × (seen race (last.tick + delay) ≡ next.tick)
    × IsFirstWait race done last next.tick
IsLaterBy race done last next (Floor place floor) =
    (place ≡ last.place) × IsByFloor race done next.tick last floor × (seen race (last.tick + floor) ≡ next.tick)
IsLaterBy race done last next (LastFailure tick) =
    IsSomeAnd race.settings.floor (IsByFloor race done next.tick last)
    × IsLeast (HaveFailed race done) next.tick × (seen race tick ≡ next.tick)
IsLaterBy race done last next (LaterAnswer family) =
    (family ≡ family_of next.ip) × IsSomeAnd (reply_of race family) (λ r. seen race r.tick ≡ next.tick)
    × ((t : ℕ) × IsFree race t × HasWaited race done t last × (t < next.tick))
    × ((t : ℕ) → IsFree race t → HasWaited race done t last → t < next.tick
    → IsFalse (list_any (is_untried done) (received race t)))

abbrev pub IsCausedBy : Race → List Attempt → Option Attempt → Attempt → Cause → Type 0
IsCausedBy race done None next cause = IsFirstBy race next.tick cause
IsCausedBy race done (Some last) next cause = IsLaterBy race done last next cause

-- each attempt that comes after others, or is the first one, has its cause
abbrev pub CausesStand : Type 0
CausesStand =
    (race : Race) → IsRace race → (done : List Attempt) (next : Attempt) → IsNext race done next
    → IsCausedBy race done (last_of done) next (cause_of race (last_of done) (last_failure race done) next)

-- a cause, at whatever tick it came, is seen at the attempt's tick
abbrev pub DuesStand : Type 0
DuesStand =
    (race : Race) → IsRace race → (done : List Attempt) (next : Attempt) → IsNext race done next
    → seen race (due_of race (last_of done) (cause_of race (last_of done) (last_failure race done) next)) ≡ next.tick

-- the cause is that all attempts so far have failed
abbrev pub names_failures : Cause → Bool
names_failures (Floor place floor) = true
names_failures (LastFailure tick) = true
names_failures _ = false

-- the cause is that, exactly if the floor starts an attempt: before the Connection Attempt Delay after the last one
-- is over, and at the first tick at which the client could act and the wait after the last one was over
abbrev pub FloorsStand : Type 0
FloorsStand =
    (race : Race) → IsRace race → (done : List Attempt) (last next : Attempt) → last_of done ≡ Some last
    → IsNext race done next
    → IsTrue (names_failures (cause_of race (Some last) (last_failure race done) next))
    ↔ ((next.tick < last.tick + race.settings.attempt) × IsFirstWait race done last next.tick)

-- the address is at this place of the list, and those before it were tried
abbrev pub IsFirstUntried : List Attempt → List Ip → ℕ → Ip → Type 0
IsFirstUntried done list place ip =
    (slice_get list place ≡ Some ip) × IsTrue (list_all (is_tried done) (take place list))

-- the place that is reported of an attempt is that place
abbrev pub PlacesStand : Type 0
PlacesStand =
    (race : Race) (done : List Attempt) (next : Attempt) → IsNext race done next
    → IsFirstUntried done (order_at race next.tick) (listed_at race next.tick next.ip).place next.ip

-- a course has the events of its race up to the end, by tick
abbrev pub CourseStands : Type 0
CourseStands =
    (race : Race) (report : Report) → IsPermutation (events_by_kind race report) (events_in race report)
    × IsNonDecreasingBy (λ event. event.tick) (events_in race report)

-- the events are the starts of attempts after these, in order, each with its cause
abbrev pub AreStarts : Race → List Attempt → List Event → Type 0
AreStarts race done [] = Unit {0}
AreStarts race done (event ∷ more) =
    (next : Attempt) × IsNext race done next × (event ≡ start_event race (last_of done) (last_failure race done) next)
    × AreStarts race (done ++ next ∷ []) more

-- the starts of a course are such events
abbrev pub StartsStand : Type 0
StartsStand =
    (race : Race) (report : Report) → IsTranscript race report
    → AreStarts race [] (start_events race None (Some 0) report.lines)

-- the event at t is the start of the attempt of a line, or of an attempt of this place
abbrev pub starts : Line → ℕ → EventKind → Bool
starts line t (Started start) = (t == line.tick) && (start.place == line.place) && same_ip start.ip line.ip
starts line t _ = false

abbrev pub starts_at : ℕ → ℕ → EventKind → Bool
starts_at place t (Started start) = start.place == place
starts_at place t _ = false

-- the event at t is the end of the attempt of this place, with this mark, or with any
abbrev pub ends : ℕ → Mark → ℕ → EventKind → Bool
ends place (marks.Won tick) t (Won at) = (t == tick) && (at == place)
ends place (marks.Failed tick) t (Failed at) = (t == tick) && (at == place)
ends place (marks.Cancelled tick) t (Cancelled at) = (t == tick) && (at == place)
ends place mark t _ = false

abbrev pub ends_at : ℕ → ℕ → EventKind → Bool
ends_at place t (Won at) = at == place
ends_at place t (Failed at) = at == place
ends_at place t (Cancelled at) = at == place
ends_at place t _ = false

-- exactly one of the events passes the test
abbrev pub IsOnce : (ℕ → EventKind → Bool) → List Event → Type 0
IsOnce test events = count_by (λ event. test event.tick event.kind) events ≡ 1

-- the attempt of a line has one start among the events, at the line's tick and to its address, and one end, which the
-- line's mark gives
pub record HasStartAndEnd (events : List Event) (line : Line) : Type 0 where
  pub start : IsOnce (starts line) events
  pub one_start : IsOnce (starts_at line.place) events
  pub end : IsOnce (ends line.place line.mark) events
  pub one_end : IsOnce (ends_at line.place) events

-- each line of a race's transcript has both
abbrev pub LinesStand : Type 0
LinesStand =
    (race : Race) → IsRace race → (report : Report) → IsTranscript race report → (n : ℕ) (line : Line)
    → slice_get report.lines n ≡ Some line → HasStartAndEnd (events_in race report) line

-- if the A answer has a usable address, the client waits for the AAAA answer exactly if the first attempt starts
-- after the A answer is seen
abbrev pub WaitsStand : Type 0
WaitsStand =
    (race : Race) → IsRace race → (a : Reply) → race.a ≡ Some a → IsTrue (list_any is_usable a.addresses)
    → (next : Attempt) → IsNext race [] next → IsTrue (is_waiting race a) ↔ (seen race a.tick < next.tick)
