-- How a race would have ended with a floor: the least time between two starts if all attempts so far have failed
-- (own).
use Rattle.std.specs.Prelude.{◌≡◌, ◌&&◌, if◌then◌else◌, Bool, List, length, slice_get, is_none, nat_lt, Option, Some, None}
use Rattle.he_timeline.specs.declared.limits.TheConstants.{MIN_FLOOR}
use Rattle.he_timeline.specs.Changes.{changed}
use Rattle.he_timeline.specs.Race.{Race}
use Rattle.he_plan.specs.declared.transcript.Line.{Line}
use Rattle.he_plan.specs.declared.transcript.Outcome3.{Outcome3}
use Rattle.he_plan.specs.declared.transcript.Outcome3.TheVariants as results
use Rattle.he_plan.specs.Transcript.{IsTranscript, Report}
use Rattle.he_course.specs.declared.floor.Ended.{Ended}
use Rattle.he_course.specs.Events.{end_event}

-- the race with the least floor that a race may have
abbrev pub floored : Race → Race
floored race =
    changed (record { resolution = None; attempt = None; count = None; limit = None; floor = Some MIN_FLOOR }) race

-- the race has no floor, and would have ended earlier with one
unfoldable pub ends_sooner : Race → Report → Report → Bool
ends_sooner race report with_floor =
    is_none race.settings.floor && nat_lt (end_event with_floor.result).tick (end_event report.result).tick

-- the attempt that won, if any
abbrev pub winner_of : List Line → Outcome3 → Option Line
winner_of lines (results.Won place tick) = slice_get lines place
winner_of lines _ = None

-- how a race with this transcript ended
abbrev pub ended_of : Report → Ended
ended_of report =
    record { result = report.result; winner = winner_of report.lines report.result; attempts = length report.lines }

-- how the race ends with that floor, if that is earlier
abbrev pub sooner_by : Race → Report → Report → Option Ended
sooner_by race report with_floor = if ends_sooner race report with_floor then Some (ended_of with_floor) else None

abbrev pub IsSooner : Race → Report → Option Ended → Type 0
IsSooner race report sooner =
    (with_floor : Report) × IsTranscript (floored race) with_floor × (sooner ≡ sooner_by race report with_floor)
