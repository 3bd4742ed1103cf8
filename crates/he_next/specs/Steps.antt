-- The due step of a running race, by the text of its record so far (RFC 8305 sections 3 to 5): the one that a replay
-- of the record yields.
use Rattle.std.specs.Prelude.{ℕ, ◌≡◌, ◌+◌, ◌++◌, List, [], ◌∷◌, false, codes, decimal, if◌then◌else◌, min, nat_le, nat_lt, slice_get, Option, Some, None}
use Rattle.he_timeline.specs.Race.{Race}
use Rattle.he_plan.specs.Transcript.{IsTranscript, Report}
use Rattle.he_plan.specs.declared.transcript.Line.{Line}
use Rattle.he_plan.specs.declared.transcript.Outcome3.{Outcome3}
use Rattle.he_plan.specs.declared.transcript.Outcome3.TheVariants as results
use Rattle.he_inputs.specs.Inputs.{HasRaces}
use Rattle.he_write.specs.Written.{written_line}
use Rattle.he_next.specs.declared.step.Action.{Action}
use Rattle.he_next.specs.declared.step.Action.TheVariants.{Start, Wait, Won, Exhausted, Limit}
use Rattle.he_next.specs.declared.step.Pause.{Pause}
use Rattle.he_next.specs.declared.step.Step.{Step}

-- the record so far with the line that ends a race
abbrev pub ended : List ℕ → List ℕ
ended record_text = record_text ++ written_line (codes "end" ∷ [])

-- the record with a pause as its last line
abbrev pub with_pause : List ℕ → ℕ → ℕ → List ℕ
with_pause record_text from until = record_text ++ written_line (codes "pause" ∷ decimal from ∷ decimal until ∷ [])

-- the record is that of a race so far, with this limit and with this transcript if nothing more happens
pub record IsSoFar (record_text : List ℕ) (limit : ℕ) (report : Report) : Type 0 where
  pub race : Race
  pub read : HasRaces (ended record_text) false (race ∷ []) None
  pub most : limit ≡ race.settings.limit
  pub transcript : IsTranscript race report

-- when the race ends if nothing more happens
abbrev pub end_tick : Outcome3 → ℕ
end_tick (results.Won place tick) = tick
end_tick (results.Exhausted tick) = tick
end_tick (results.Limit tick) = tick

abbrev pub end_action : Outcome3 → Action
end_action (results.Won place tick) = Won place tick
end_action (results.Exhausted tick) = Exhausted tick
end_action (results.Limit tick) = Limit tick

-- the next attempt starts if its tick has come, and otherwise is waited for; if there is none, the race's end is
-- waited for
abbrev pub due_action : Outcome3 → ℕ → Option Line → Action
due_action result now None = Wait (end_tick result)
due_action result now (Some line) = if nat_le line.tick now then Start line.place line.tick line.ip else Wait line.tick

-- the action that is due at the tick, with `started` attempts started
abbrev pub action_of : Report → ℕ → ℕ → Action
action_of report started now =
    if nat_le (end_tick report.result) now then end_action report.result
    else due_action report.result now (slice_get report.lines started)

-- the start of the next attempt, if it is before the tick
abbrev pub before_tick : ℕ → Option Line → Option ℕ
before_tick now None = None
before_tick now (Some line) = if nat_lt line.tick now then Some line.tick else None

abbrev pub late_start : Report → ℕ → ℕ → Option ℕ
late_start report started now = before_tick now (slice_get report.lines started)

-- a tick past the limit counts as the one after it
abbrev pub tick_of : ℕ → ℕ → ℕ
tick_of limit now = min now (limit + 1)

-- the next attempt should have started at `start`, and the client comes only at `until`
pub record IsLate (record_text : List ℕ) (started now start until : ℕ) : Type 0 where
  pub limit : ℕ
  pub report : Report
  pub so_far : IsSoFar record_text limit report
  pub up_to : until ≡ tick_of limit now
  pub missed : late_start report started until ≡ Some start

-- the action that this record of a race so far yields
pub record Says (record_text : List ℕ) (started now : ℕ) (action : Action) : Type 0 where
  pub limit : ℕ
  pub report : Report
  pub so_far : IsSoFar record_text limit report
  pub due : action ≡ action_of report started (tick_of limit now)

-- the client was not late
pub record IsInTime (record_text : List ℕ) (started now : ℕ) (action : Action) : Type 0 where
  pub limit : ℕ
  pub report : Report
  pub so_far : IsSoFar record_text limit report
  pub none : late_start report started (tick_of limit now) ≡ None
  pub due : action ≡ action_of report started (tick_of limit now)

-- the step: if the client was late, the pause from the missed start to now, and the action after it
abbrev pub IsPausedStep : List ℕ → ℕ → ℕ → Option Pause → Action → Type 0
IsPausedStep record_text started now None action = IsInTime record_text started now action
IsPausedStep record_text started now (Some pause) action =
    IsLate record_text started now pause.from pause.until
    × Says (with_pause record_text pause.from pause.until) started now action

abbrev pub IsStep : List ℕ → ℕ → ℕ → Step → Type 0
IsStep record_text started now step = IsPausedStep record_text started now step.pause step.action
