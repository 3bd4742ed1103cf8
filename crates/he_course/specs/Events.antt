-- The events of a race, each with its tick (RFC 8305 sections 3 and 5).
use Rattle.std.specs.Prelude.{ℕ, ◌+◌, ◌&&◌, ◌++◌, if◌then◌else◌, not, Bool, true, false, List, [], ◌∷◌, map, filter, count_by, Option, Some, None, nat_le, nat_lt}
use Rattle.std.specs.List.{flat_map, list_any}
use Rattle.std.specs.Option.{option_map_or}
use Rattle.he_addr.specs.declared.ip.Family.{Family}
use Rattle.he_addr.specs.declared.ip.Family.TheVariants as families
use Rattle.he_addr.specs.Ip.{is_usable}
use Rattle.he_plan.specs.declared.attempts.Attempt.{Attempt}
use Rattle.he_plan.specs.declared.transcript.Line.{Line}
use Rattle.he_plan.specs.declared.transcript.Mark.{Mark}
use Rattle.he_plan.specs.declared.transcript.Mark.TheVariants as marks
use Rattle.he_plan.specs.declared.transcript.Outcome3.{Outcome3}
use Rattle.he_plan.specs.declared.transcript.Outcome3.TheVariants as results
use Rattle.he_timeline.specs.Seen.{seen}
use Rattle.he_timeline.specs.Race.{Race, Reply}
use Rattle.he_plan.specs.Transcript.{Report}
use Rattle.he_course.specs.declared.events.Event.{Event}
use Rattle.he_course.specs.declared.events.EventKind.{EventKind}
use Rattle.he_course.specs.declared.events.EventKind.TheVariants.{Paused, Answered, Waits, DelayOver, Failed, Started, Won, Exhausted, Limit, Cancelled}
use Rattle.he_course.specs.Causes.{cause_of, failure_of, is_held, later_of}
use Rattle.he_course.specs.Listing.{listed_at}

abbrev pub event_at : ℕ → EventKind → Event
event_at tick kind = record { tick = tick; kind = kind }

abbrev pub pause_events : List (ℕ × ℕ) → List Event
pause_events pauses = map (λ p. event_at p.0 (Paused p.1)) pauses

-- an answer, at the tick at which it is seen, with the number of its usable addresses
abbrev pub answer_events : Race → Family → Option Reply → List Event
answer_events race family None = []
answer_events race family (Some reply) =
    event_at (seen race reply.tick) (Answered family (count_by is_usable reply.addresses)) ∷ []

-- the answer is seen by t
abbrev pub is_seen_by : Race → ℕ → Option Reply → Bool
is_seen_by race t reply = option_map_or (λ r. nat_le (seen race r.tick) t) reply false

-- the Resolution Delay's end, if the AAAA answer is not seen by then
abbrev pub over_events : Race → ℕ → List Event
over_events race t = if is_seen_by race t race.aaaa then [] else event_at t DelayOver ∷ []

-- the A answer has a usable address, and is seen before the Resolution Delay ends and before the AAAA answer is seen
abbrev pub is_waiting : Race → Reply → Bool
is_waiting race a =
    list_any is_usable a.addresses && nat_lt (seen race a.tick) (a.tick + race.settings.resolution)
    && not (is_seen_by race (seen race a.tick) race.aaaa)

-- then the client waits for the AAAA answer up to the end of that delay
abbrev pub wait_events : Race → Option Reply → List Event
wait_events race None = []
wait_events race (Some a) =
    if is_waiting race a
    then event_at (seen race a.tick) (Waits (a.tick + race.settings.resolution))
    ∷ over_events race (seen race (a.tick + race.settings.resolution))
    else []

-- the client's pauses, the answers, and the wait for the AAAA answer
abbrev pub met_events : Race → List Event
met_events race =
    (pause_events race.pauses ++ (answer_events race families.V6 race.aaaa ++ answer_events race families.V4 race.a))
    ++ wait_events race race.a

abbrev pub attempt_of : Line → Attempt
attempt_of line = record { place = line.place; tick = line.tick; ip = line.ip }

-- the start of an attempt, given the one before it and the last failure
abbrev pub start_event : Race → Option Attempt → Option ℕ → Attempt → Event
start_event race last failed next =
    let cause = cause_of race last failed next in
    event_at next.tick
    (Started
    (record {
      place = next.place;
      ip = next.ip;
      cause = cause;
      held = is_held race last cause next.tick;
      listed = listed_at race next.tick next.ip;
    }))

-- the starts of attempts in order, given the last one before them and the last failure
abbrev pub start_events : Race → Option Attempt → Option ℕ → List Line → List Event
start_events race last failed [] = []
start_events race last failed (line ∷ lines) =
    start_event race last failed (attempt_of line)
    ∷ start_events race (Some (attempt_of line)) (later_of failed (failure_of race (attempt_of line))) lines

abbrev pub failed_by : ℕ → Mark → List Event
failed_by place (marks.Failed tick) = event_at tick (Failed place) ∷ []
failed_by place _ = []

abbrev pub cancelled_by : ℕ → Mark → List Event
cancelled_by place (marks.Cancelled tick) = event_at tick (Cancelled place) ∷ []
cancelled_by place _ = []

-- the end of a race, with its tick
abbrev pub end_event : Outcome3 → Event
end_event (results.Won place tick) = event_at tick (Won place)
end_event (results.Exhausted tick) = event_at tick Exhausted
end_event (results.Limit tick) = event_at tick Limit

-- the outcomes of the attempts of a transcript, and of the race
abbrev pub told_events : Race → Report → List Event
told_events race report =
    (flat_map (λ line. failed_by line.place line.mark) report.lines ++ start_events race None (Some 0) report.lines)
    ++ (end_event report.result ∷ flat_map (λ line. cancelled_by line.place line.mark) report.lines)

-- the events of a race with this transcript, by kind
abbrev pub events_of : Race → Report → List Event
events_of race report = met_events race ++ told_events race report

-- the client sees that the Resolution Delay has ended
abbrev pub is_delay_over : EventKind → Bool
is_delay_over DelayOver = true
is_delay_over _ = false

-- it comes by the race's end; a pause begins before it
abbrev pub comes_by : ℕ → ℕ → EventKind → Bool
comes_by end tick (Paused until) = nat_lt tick end
comes_by end tick _ = nat_le tick end

-- the events that come by the race's end
abbrev pub events_by_kind : Race → Report → List Event
events_by_kind race report =
    filter (λ event. comes_by (end_event report.result).tick event.tick event.kind) (events_of race report)
