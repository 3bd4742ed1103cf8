-- The trials of a recorded race.
use Rattle.std.specs.Prelude.{ℕ, ◌≡◌, ◌+◌, Option, Some, None, Result, Ok, Err, if◌then◌else◌, nat_lt}
use Rattle.futures.specs.declared.task.Poll.{Poll}
use Rattle.futures.specs.declared.task.Poll.TheVariants.{Ready, Pending}
use Rattle.he_addr.specs.declared.ip.Ip.{Ip}
use Rattle.he_timeline.specs.declared.outcome.Outcome.{Outcome}
use Rattle.he_timeline.specs.declared.outcome.Outcome.TheVariants as outcomes
use Rattle.he_timeline.specs.Race.{outcome_of, Race}
use Rattle.he_turns.specs.declared.faults.AttemptFault.{AttemptFault}
use Rattle.he_turns.specs.declared.faults.AttemptFault.TheVariants.{Failed}
use Rattle.he_race.specs.declared.scripted.ScriptedTrial.{ScriptedTrial}
use Rattle.he_race.specs.declared.scripted.ScriptedTrial.TheVariants.{Succeeds, Fails, Silent}

-- the trial of an outcome that begins at `start`
abbrev pub script : Option Outcome → ℕ → ScriptedTrial
script None start = Silent
script (Some (outcomes.Ok duration)) start = Succeeds (start + duration)
script (Some (outcomes.Fail duration)) start = Fails (start + duration)

-- the trial of an address that begins at `start`
abbrev pub script_of : Race → Ip → ℕ → ScriptedTrial
script_of race ip start = script (outcome_of race ip) start

-- the trial's answer at `now`
abbrev pub answer_of : ScriptedTrial → ℕ → Poll (Result (Unit {0}) AttemptFault)
answer_of (Succeeds tick) now = if nat_lt now tick then Pending else Ready (Ok tt)
answer_of (Fails tick) now = if nat_lt now tick then Pending else Ready (Err Failed)
answer_of Silent now = Pending

-- the tick from which the trial answers
abbrev pub tick_of : ScriptedTrial → Option ℕ
tick_of (Succeeds tick) = Some tick
tick_of (Fails tick) = Some tick
tick_of Silent = None

-- a poll at `now`: its answer; the trial is unchanged
abbrev pub ScriptPolls : ScriptedTrial → ℕ → Poll (Result (Unit {0}) AttemptFault) → ScriptedTrial → Type 0
ScriptPolls trial now answer left = (answer ≡ answer_of trial now) × (left ≡ trial)
