-- Mirrors the code: the invariant of the loop of `race_one`, which runs a scripted race over a ticker that jumps from
-- tick to tick: the race's record so far is the script's, and nothing is skipped.
use Rattle.std.specs.Prelude.{ℕ, ◌≡◌, ◌+◌, ◌<◌, ◌≤◌, ◌||◌, Bool, List, [], Option, Some, Result, Ok, Err, IfSome, IsTrue}
use Rattle.std.specs.List.{All, Contains, list_all, list_any}
use Rattle.he_addr.specs.Ip.{InRange, same_ip}
use Rattle.he_addr.specs.declared.ip.Ip.{Ip}
use Rattle.he_plan.specs.declared.attempts.Attempt.{Attempt}
use Rattle.he_timeline.specs.declared.outcome.Outcome.{Outcome}
use Rattle.he_timeline.specs.declared.outcome.Outcome.TheVariants as outcomes
use Rattle.he_plan.specs.Agreement.{AreAlike}
use Rattle.he_plan.specs.Attempts.{AreNextInTurn}
use Rattle.he_timeline.specs.Seen.{IsFree, seen}
use Rattle.he_timeline.specs.Race.{outcome_of, Race, Reply, addresses_of, has_outcome}
use Rattle.he_timeline.specs.Timeline.{IsRace, duration_of}
use Rattle.he_plan.specs.Transcript.{IsTranscript}
use Rattle.he_turns.specs.declared.attempt.AttemptFuture.TheVariants.{Connecting}
use Rattle.he_turns.specs.declared.connector.Connector.{Ghosts as ConnectorOf}
use Rattle.he_turns.specs.declared.faults.RaceFault.{RaceFault}
use Rattle.he_turns.specs.declared.faults.RaceFault.TheVariants as faults
use Rattle.he_turns.specs.declared.live.Live.{Live}
use Rattle.he_turns.specs.declared.live.Raced.{Raced}
use Rattle.he_turns.specs.declared.live.Unfinished.{Unfinished}
use Rattle.he_turns.specs.declared.race.RaceFuture.{RaceFuture}
use Rattle.he_race.specs.declared.scripted.ScriptedTrial.{ScriptedTrial}
use Rattle.he_turns.specs.Kept.{first_after}
use Rattle.he_race.specs.Running.{IsScripted, scripted_trial}
use Rattle.he_race.specs.Scripted.{script_of}
use Rattle.he_race.specs.Wheel.{Wheel}
use Rattle.he_turns.specs.Winner.{MayPoll}

-- a script: a race within its ranges, as every timeline is
pub record IsScript (script : Race) : Type 0 where
  pub valid : IsRace script
  pub six : All InRange (addresses_of script.aaaa)
  pub four : All InRange (addresses_of script.a)

-- a recorded outcome is the script's, and ends where the script's end is seen
abbrev pub EndsAs : Race → ℕ → Outcome → Outcome → Type 0
EndsAs script start (outcomes.Ok after) (outcomes.Ok duration) = start + after ≡ seen script (start + duration)
EndsAs script start (outcomes.Ok after) (outcomes.Fail duration) = ⊥
EndsAs script start (outcomes.Fail after) (outcomes.Ok duration) = ⊥
EndsAs script start (outcomes.Fail after) (outcomes.Fail duration) = start + after ≡ seen script (start + duration)

pub record IsAsScripted (script : Race) (xs : List Attempt) (told : Ip × Outcome) : Type 0 where
  pub x : Attempt
  pub made : Contains xs x
  pub at : x.ip ≡ told.0
  pub outcome : Outcome
  pub is : outcome_of script x.ip ≡ Some outcome
  pub ends : EndsAs script x.tick told.1 outcome

-- in the script the attempt doesn't end before the tick
abbrev pub EndsFrom : Race → ℕ → Attempt → Type 0
EndsFrom script now x = IfSome (outcome_of script x.ip) (λ outcome. now ≤ seen script (x.tick + duration_of outcome))

-- an answer that came before the tick is seen as in the script
abbrev pub SeesAs : Race → Race → ℕ → Option Reply → Type 0
SeesAs script race before reply = IfSome reply (λ r. r.tick < before → seen race r.tick ≡ seen script r.tick)

-- an attempt in progress, with the script's outcome, before a poll at the tick
pub record IsConnecting {C : Type 0} (script : Race) (xs : List Attempt) (now : ℕ)
    (o : Unfinished C (Unit {0}) ScriptedTrial) : Type 0 where
  pub made : Contains xs o.attempt
  pub is_fresh : Bool
  pub future : o.future ≡ Connecting (Ok (script_of script o.attempt.ip o.attempt.tick)) (o.attempt.tick + 1) is_fresh
  pub started : o.attempt.tick < now
  pub ends : EndsFrom script now o.attempt

-- the attempt is unfinished, or its address has an outcome
abbrev pub is_held : {C : Type 0} → List (Unfinished C (Unit {0}) ScriptedTrial) → Race → Attempt → Bool
is_held os race x = list_any (λ o. same_ip o.attempt.ip x.ip) os || has_outcome x.ip race.outcomes

-- a race that is next polled at a tick, with a record that matches the script so far
pub record Follows {C : Type 0} (script : Race) (live : Live C (Unit {0}) ScriptedTrial) (at : ℕ) : Type 0 where
  pub alike : AreAlike script live.recorder.recorded
  pub free : (t : ℕ) → IsFree script t → IsFree live.recorder.recorded t
  pub in_turn : AreNextInTurn script live.recorder.underway.attempts
  pub told : All (IsAsScripted script live.recorder.underway.attempts) live.recorder.recorded.outcomes
  pub held : IsTrue (list_all (is_held live.unfinished.items live.recorder.recorded) live.recorder.underway.attempts)
  pub aaaa : SeesAs script live.recorder.recorded (first_after live.recorder.turn) script.aaaa
  pub a : SeesAs script live.recorder.recorded (first_after live.recorder.turn) script.a
  pub connecting : All (IsConnecting script live.recorder.underway.attempts at) live.unfinished.items
  pub later : first_after live.recorder.turn ≤ at
  pub awake : IsFree script at
  pub due : (t : ℕ) → live.recorder.due ≤ t → IsFree script t → at ≤ t

-- a future of such a race, after `turns` turns, at its ticker's current tick
pub record IsUnderWay {C : Type 0} (connector : ConnectorOf C (Unit {0}) ScriptedTrial) (turns : ℕ)
    (race : RaceFuture C Wheel (Unit {0}) ScriptedTrial) : Type 0 where
  pub script : IsScript race.ticker.race
  pub live : Live C (Unit {0}) ScriptedTrial
  pub is : race.live ≡ Some live
  pub kept : MayPoll connector scripted_trial race.connector live
  pub scripted : IsScripted connector race.ticker.race race.connector
  pub follows : Follows race.ticker.race live race.ticker.at
  pub asked : race.ticker.asked ≡ []
  pub turns_by : turns ≤ first_after live.recorder.turn

-- the result of such a race: the script's transcript, or `Memory` if an allocation fails
abbrev pub GivesScripts : Race → Result (Raced (Unit {0})) RaceFault → Type 0
GivesScripts script (Ok raced) = IsTranscript script raced.transcript
GivesScripts script (Err fault) = fault ≡ faults.Memory
