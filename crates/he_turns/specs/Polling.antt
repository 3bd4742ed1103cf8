-- Mirrors the code: the results of private functions for a poll: of one attempt, of all of them, and of the end of a
-- turn.
use Rattle.std.specs.Prelude.{ℕ, ◌≡◌, ◌≤◌, ◌++◌, ⊤, false, List, [], ◌∷◌, slice_get, Option, Some, None, Result}
use Rattle.std.specs.List.{Contains, remove, slice_set}
use Rattle.futures.specs.declared.task.context.Context.{Context}
use Rattle.futures.specs.declared.task.Poll.{Poll}
use Rattle.futures.specs.declared.task.Poll.TheVariants.{Ready, Pending}
use Rattle.he_plan.specs.declared.attempts.Attempt.{Attempt}
use Rattle.he_plan.specs.Agreement.{AreAlike}
use Rattle.he_timeline.specs.Race.{Race, has_outcome}
use Rattle.he_timeline.specs.Timeline.{IsRace}
use Rattle.he_plan.specs.RaceState.{IsUnderway}
use Rattle.he_turns.specs.declared.answers.AnswerSource.{Ghosts as SourceOf}
use Rattle.he_turns.specs.declared.attempt.AttemptFuture.{AttemptFuture}
use Rattle.he_turns.specs.declared.attempt.Finish.{Finish}
use Rattle.he_turns.specs.declared.connector.Connector.{Ghosts as ConnectorOf}
use Rattle.he_turns.specs.declared.recorder.Recorder.{Recorder}
use Rattle.he_turns.specs.declared.faults.AttemptFault.{AttemptFault}
use Rattle.he_turns.specs.declared.limits.TheConstants.{MAX_POLL_TICK}
use Rattle.he_turns.specs.declared.live.Live.{Live}
use Rattle.he_turns.specs.declared.live.Unfinished.{Unfinished}
use Rattle.he_turns.specs.declared.live.AfterPoll.{AfterPoll}
use Rattle.he_turns.specs.declared.trial.Trial.{Ghosts as TrialOf}
use Rattle.he_turns.specs.Attempt.{AttemptPolls}
use Rattle.he_turns.specs.Kept.{IsLive}
use Rattle.he_turns.specs.Listening.{AllListen, HeardListens, TurnHears, TurnListens}
use Rattle.he_turns.specs.Turns.{BeginsAt, EndsPolled, Goes, Replays, StartsOne, Sweep, asked_tick, told}
use Rattle.he_turns.specs.declared.live.AfterPoll.TheVariants as after_polls

-- an attempt of the race answered at the tick, and its outcome is recorded, with the ticks since its start
pub record Records {Conn : Type 0} (old : Recorder) (now : ℕ) (answer : Result Conn AttemptFault)
    (new : Recorder) : Type 0 where
  pub x : Attempt
  pub made : Contains old.underway.attempts x
  pub first : has_outcome x.ip old.recorded.outcomes ≡ false
  pub is : new.recorded ≡ told old.recorded x now answer
  pub attempts : new.underway.attempts ≡ old.underway.attempts
  pub valid : IsRace new.recorded
  pub underway : IsUnderway new.recorded new.underway

-- a pending attempt leaves the record unchanged
abbrev pub Answers : {Conn : Type 0} → Recorder → ℕ → Option (Result Conn AttemptFault) → Recorder → Type 0
Answers old now None new = new ≡ old
Answers old now (Some answer) new = Records old now answer new

module _ {C Conn Run : Type 0} (connector : ConnectorOf C Conn Run) (trial : TrialOf Run Conn) where
  -- the attempt at `i`, the answer of its poll, and the attempt that is left
  abbrev pub LeftBy : Live C Conn Run → ℕ → ℕ → Unfinished C Conn Run → Poll (Finish Conn) → AttemptFuture C Conn Run
      → Option (Result Conn AttemptFault) → Live C Conn Run → Type 0
  LeftBy old i now o Pending future answer new =
      (answer ≡ None) × (new.recorder ≡ old.recorder)
      × (new.unfinished.items ≡ slice_set old.unfinished.items i (record o { future = future }))
  LeftBy old i now o (Ready f) future answer new =
      (answer ≡ Some f.result) × (new.recorder.recorded ≡ told old.recorder.recorded o.attempt now f.result)
      × (new.recorder.underway.attempts ≡ old.recorder.underway.attempts)
      × (new.unfinished.items ≡ remove (slice_set old.unfinished.items i (record o { future = future })) i)

  -- the attempt at `i` is polled once
  pub record PollsAt (c : C) (old : Live C Conn Run) (i now : ℕ) (answer : Option (Result Conn AttemptFault)) (c' : C)
      (new : Live C Conn Run) : Type 0 where
    pub o : Unfinished C Conn Run
    pub at : slice_get old.unfinished.items i ≡ Some o
    pub polled : Poll (Finish Conn)
    pub future : AttemptFuture C Conn Run
    pub polls : AttemptPolls connector trial c o.future now polled c' future
    pub left : LeftBy old i now o polled future answer new

  abbrev pub BeginsOne : C → Option Attempt → List (Unfinished C Conn Run) → C → List (Unfinished C Conn Run) → Type 0
  BeginsOne c None os c' new = (c' ≡ c) × (new ≡ os)
  BeginsOne c (Some x) os c' new =
      (o : Unfinished C Conn Run) × BeginsAt connector trial c x c' o × (new ≡ os ++ o ∷ [])

  -- the attempt at `made`, if there is one, begins, and is appended to the others
  abbrev pub BeginsFrom : C → List Attempt → ℕ → List (Unfinished C Conn Run) → C → List (Unfinished C Conn Run)
      → Type 0
  BeginsFrom c all made os c' new = BeginsOne c (slice_get all made) os c' new

  -- the end of a turn of a race that goes on: an attempt that is due begins
  pub record Continues (c : C) (old : Live C Conn Run) (now : ℕ) (c' : C) (new : Live C Conn Run)
      (tick : ℕ) : Type 0 where
    pub recorded : new.recorder.recorded ≡ old.recorder.recorded
    pub starts : StartsOne connector trial c now old.recorder.underway.attempts new.recorder.underway.attempts old.unfinished.items c' new.unfinished.items
    pub kept : IsLive connector trial new
    pub turn : new.recorder.turn ≡ Some now
    pub asked : tick ≡ asked_tick connector trial new.recorder.due new.unfinished.items

  abbrev pub GoesOn : C → Live C Conn Run → ℕ → C → AfterPoll C Conn Run → Type 0
  GoesOn c old now c' (after_polls.Ended raced) = ⊥
  GoesOn c old now c' (after_polls.Waits new tick) = Continues c old now c' new tick

  -- a turn at or before the limit, once a pause is recorded
  abbrev pub TurnsFrom : Sweep C Conn Run → List (Unfinished C Conn Run) → ℕ → C → AfterPoll C Conn Run → Type 0
  TurnsFrom from os now c' (after_polls.Ended raced) = EndsPolled connector trial from os now c' raced
  TurnsFrom from os now c' (after_polls.Waits new tick) = Goes connector trial from os now c' new tick

  -- after a turn, and after a poll, the attempts of a race that goes on listen
  abbrev pub AllListenAfter : Context → AfterPoll C Conn Run → Type 0
  AllListenAfter cx (after_polls.Ended raced) = ⊤
  AllListenAfter cx (after_polls.Waits live tick) = AllListen connector trial cx live.unfinished.items

  abbrev pub TurnListensAfter : Context → Live C Conn Run → AfterPoll C Conn Run → Type 0
  TurnListensAfter cx was (after_polls.Ended raced) = ⊤
  TurnListensAfter cx was (after_polls.Waits live tick) = TurnListens connector trial cx was live

module _ {S C Conn Run : Type 0} (source : SourceOf S) where
  -- and its source listens
  abbrev pub HeardListensAfter : Context → S → Race → ℕ → S → AfterPoll C Conn Run → Type 0
  HeardListensAfter cx s race now s' (after_polls.Ended raced) = ⊤
  HeardListensAfter cx s race now s' (after_polls.Waits live tick) =
      HeardListens source cx s race now s' live.recorder.recorded

  abbrev pub TurnHearsAfter : Context → S → Live C Conn Run → S → AfterPoll C Conn Run → Type 0
  TurnHearsAfter cx s was s' (after_polls.Ended raced) = ⊤
  TurnHearsAfter cx s was s' (after_polls.Waits live tick) = TurnHears source cx s was s' live

-- the requested tick is in range
abbrev pub AsksInTime : {C Conn Run : Type 0} → AfterPoll C Conn Run → Type 0
AsksInTime (after_polls.Ended raced) = ⊤
AsksInTime (after_polls.Waits new tick) = tick ≤ MAX_POLL_TICK

-- the race has ended, with this record and this connection
abbrev pub EndsWith : {C Conn Run : Type 0} → Race → Option Conn → AfterPoll C Conn Run → Type 0
EndsWith race winner (after_polls.Ended raced) = Replays race raced × (raced.recorded ≡ race) × (raced.winner ≡ winner)
EndsWith race winner (after_polls.Waits new tick) = ⊥

-- after all attempts were polled: outcomes are recorded, and nothing else has changed
pub record Polled (old new : Recorder) : Type 0 where
  pub attempts : new.underway.attempts ≡ old.underway.attempts
  pub alike : AreAlike old.recorded new.recorded
  pub pauses : new.recorded.pauses ≡ old.recorded.pauses
  pub underway : IsUnderway new.recorded new.underway
