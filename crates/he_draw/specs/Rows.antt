-- The rows of a picture of a race.
use Rattle.std.specs.Prelude.{ℕ, ◌++◌, if◌then◌else◌, List, [], ◌∷◌, map, min, nat_le, Option, Some, None}
use Rattle.std.specs.List.{flat_map}
use Rattle.std.specs.Option.{option_map_or}
use Rattle.he_addr.specs.declared.ip.Family.{Family}
use Rattle.he_addr.specs.declared.ip.Family.TheVariants as families
use Rattle.he_plan.specs.declared.transcript.Line.{Line}
use Rattle.he_plan.specs.declared.transcript.Mark.{Mark}
use Rattle.he_plan.specs.declared.transcript.Mark.TheVariants as marks
use Rattle.he_course.specs.declared.course.Course.{Course}
use Rattle.he_course.specs.declared.course.Seen.{Seen}
use Rattle.he_course.specs.declared.events.Event.{Event}
use Rattle.he_course.specs.declared.events.EventKind.{EventKind}
use Rattle.he_course.specs.declared.events.EventKind.TheVariants as kinds
use Rattle.he_course.specs.Events.{end_event}
use Rattle.he_record.specs.Said.{Said as RecordSaid}
use Rattle.he_story.specs.Ends.{end_said}
use Rattle.he_draw.specs.declared.rows.Row.{Row}
use Rattle.he_draw.specs.declared.rows.What.TheVariants.{Answer, Wait, Missing, Pause, Attempt}

-- the tick at which the race ends
abbrev pub end_of : {A : Type 0} → Course A → ℕ
end_of course = (end_event course.transcript.result).tick

-- an answer, if it is seen by the end
abbrev pub answer_row : ℕ → Family → Option Seen → Row
answer_row end family None = record { what = Missing family; from = 0; to = 0 }
answer_row end family (Some answer) =
    if nat_le answer.tick end
    then record { what = Answer family answer.usable; from = answer.tick; to = answer.tick }
    else record { what = Missing family; from = 0; to = 0 }

-- the end of the Resolution Delay in which the client waits for the AAAA answer, if it does (RFC 8305 section 3)
abbrev pub until_of : EventKind → Option ℕ → Option ℕ
until_of (kinds.Waits until) later = Some until
until_of _ later = later

abbrev pub wait_in : List Event → Option ℕ
wait_in [] = None
wait_in (event ∷ more) = until_of event.kind (wait_in more)

-- a wait that may last up to this tick is over when the AAAA answer is seen, if that is sooner
abbrev pub wait_end : Option Seen → ℕ → ℕ
wait_end aaaa last = option_map_or (λ answer. min answer.tick last) aaaa last

-- the A answer, and the wait that begins with it
abbrev pub a_row : ℕ → Option Seen → Option ℕ → Option Seen → Row
a_row end aaaa (Some until) (Some a) =
    record { what = Wait a.usable; from = a.tick; to = wait_end aaaa (min until end) }
a_row end aaaa _ a = answer_row end families.V4 a

-- a pause that begins before the end
abbrev pub pause_rows : ℕ → EventKind → List Row
pause_rows tick (kinds.Paused until) = record { what = Pause; from = tick; to = until } ∷ []
pause_rows tick _ = []

-- the tick at which an attempt ended
abbrev pub stop_of : Mark → ℕ
stop_of (marks.Won tick) = tick
stop_of (marks.Failed tick) = tick
stop_of (marks.Cancelled tick) = tick

-- an attempt, and the word for its end
abbrev pub attempt_row : List RecordSaid → ℕ → Line → Row
attempt_row said delay line =
    record { what = Attempt line.ip (end_said said delay line); from = line.tick; to = stop_of line.mark }

-- the answers, the pauses, and each attempt once, by place
unfoldable pub rows_of : {A : Type 0} → List RecordSaid → Course A → List Row
rows_of said course =
    (answer_row (end_of course) families.V6 course.aaaa
    ∷ a_row (end_of course) course.aaaa (wait_in course.events.items) course.a
    ∷ flat_map (λ event. pause_rows event.tick event.kind) course.events.items)
    ++ map (attempt_row said course.delay) course.transcript.lines
