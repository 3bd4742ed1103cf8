-- A turn of a running race, and the end of the race. The public contracts of `RaceFuture` cite it.
use Rattle.std.specs.Prelude.{ℕ, ◌≡◌, ◌+◌, ◌-◌, ◌<◌, ◌==◌, ◌&&◌, ◌||◌, ◌⊎◌, ◌++◌, length, min, nat_le, Bool, true, false, MatchBool, List, [], ◌∷◌, Option, Some, None, is_some, option_map, Result, Ok, Err}
use Rattle.futures.specs.declared.task.Poll.{Poll}
use Rattle.futures.specs.declared.task.Poll.TheVariants.{Ready, Pending}
use Rattle.he_addr.specs.declared.ip.Ip.{Ip}
use Rattle.he_plan.specs.declared.attempts.Attempt.{Attempt}
use Rattle.he_plan.specs.Agreement.{AreAlike}
use Rattle.he_timeline.specs.Building.{unrecorded, with_outcome}
use Rattle.he_timeline.specs.Race.{Race}
use Rattle.he_plan.specs.Transcript.{IsTranscript}
use Rattle.he_turns.specs.declared.attempt.AttemptFuture.{AttemptFuture}
use Rattle.he_turns.specs.declared.attempt.AttemptFuture.TheVariants.{Sleeping}
use Rattle.he_turns.specs.declared.attempt.Finish.{Finish}
use Rattle.he_turns.specs.declared.connector.Connector.{Ghosts as ConnectorOf}
use Rattle.he_turns.specs.declared.faults.AttemptFault.{AttemptFault}
use Rattle.he_turns.specs.declared.faults.RaceFault.{RaceFault}
use Rattle.he_turns.specs.declared.live.Live.{Live}
use Rattle.he_turns.specs.declared.live.Unfinished.{Unfinished}
use Rattle.he_turns.specs.declared.live.Raced.{Raced}
use Rattle.he_turns.specs.declared.live.AfterPoll.{AfterPoll}
use Rattle.he_turns.specs.declared.trial.Trial.{Ghosts as TrialOf}
use Rattle.he_turns.specs.Answered.{earliest, is_tried_out_by}
use Rattle.he_turns.specs.Attempt.{AttemptPolls, due_of}
use Rattle.he_turns.specs.Recording.{EndsRace, ended_by, is_won, slept}
use Rattle.he_turns.specs.Kept.{IsLive}
use Rattle.he_turns.specs.Winner.{EndsAt}
use Rattle.he_turns.specs.declared.faults.RaceFault.TheVariants as faults
use Rattle.he_turns.specs.declared.live.AfterPoll.TheVariants as after_polls

-- an attempt's answer is a connection
abbrev pub is_connection : {Conn : Type 0} → Result Conn AttemptFault → Bool
is_connection (Ok conn) = true
is_connection (Err fault) = false

-- the record replays: its transcript is that of the rules, and there is a winner's connection exactly if the race was
-- won
pub record Replays {Conn : Type 0} (race : Race) (raced : Raced Conn) : Type 0 where
  pub alike : AreAlike race raced.recorded
  pub transcript : IsTranscript raced.recorded raced.transcript
  pub winner : is_some raced.winner ≡ is_won raced.transcript.result

-- the results of a running race with this record so far: an end for which `said` holds, or a fault; and `Over`
-- exactly if the race has given its result before
abbrev pub GivesBy : {Conn : Type 0} → (Race → Raced Conn → Type 0) → Option Race → Result (Raced Conn) RaceFault
    → Type 0
GivesBy said (Some race) (Ok raced) = said race raced
GivesBy said (Some race) (Err faults.Over) = ⊥
GivesBy said (Some race) (Err fault) = Unit {0}
GivesBy said None (Ok raced) = ⊥
GivesBy said None (Err fault) = fault ≡ faults.Over

-- if all answers were given: an end that replays, with a winner that goes to the address of the winning line
abbrev pub GivesFrom : {Conn : Type 0} → (Ip → Conn → Type 0) → Option Race → Result (Raced Conn) RaceFault → Type 0
GivesFrom {Conn} reaches race result = GivesBy (EndsAt (Replays {Conn = Conn}) reaches) race result

abbrev pub GivesOf : {C Conn Run : Type 0} → (Ip → Conn → Type 0) → Option (Live C Conn Run)
    → Result (Raced Conn) RaceFault → Type 0
GivesOf {C} {Conn} {Run} reaches live result =
    GivesFrom {Conn = Conn} reaches (option_map (λ (x : Live C Conn Run). x.recorder.recorded) live) result

-- the race ends at the tick: it is won, or at its limit, or exhausted: no attempt is unfinished, both answers have
-- come, and each of their usable addresses was tried
abbrev pub is_over : {X : Type 0} → Race → List Attempt → ℕ → List X → Bool → Bool
is_over race attempts now unfinished won =
    won || (nat_le race.settings.limit now
    || ((length unfinished == 0) && (is_tried_out_by now attempts race.aaaa && is_tried_out_by now attempts race.a)))

-- the record with the outcome of an attempt, which took the ticks since its start
abbrev pub told : {Conn : Type 0} → Race → Attempt → ℕ → Result Conn AttemptFault → Race
told race x now answer = with_outcome race x.ip (ended_by (is_connection answer) (now - x.tick))

-- the connection so far, or else the answer's
abbrev pub first_of : {Conn : Type 0} → Option Conn → Result Conn AttemptFault → Option Conn
first_of (Some conn) answer = Some conn
first_of None (Ok conn) = Some conn
first_of None (Err fault) = None

-- a turn in which some of the unfinished attempts were polled: the connector, the record, the attempts made, those of
-- the polled ones that are still pending, and the first connection
pub record Sweep (C Conn Run : Type 0) : Type 0 where
  pub connector : C
  pub recorded : Race
  pub attempts : List Attempt
  pub pending : List (Unfinished C Conn Run)
  pub first : Option Conn

-- a turn that begins, in which nothing has been polled yet
abbrev pub unpolled : {C Conn Run : Type 0} → C → Race → List Attempt → Sweep C Conn Run
unpolled c race attempts = record { connector = c; recorded = race; attempts = attempts; pending = []; first = None }

-- a race before its first turn: nothing is recorded yet, and no attempt was made
pub record IsNew {C Conn Run : Type 0} (race : Race) (live : Live C Conn Run) : Type 0 where
  pub recorded : live.recorder.recorded ≡ unrecorded race
  pub turn : live.recorder.turn ≡ None
  pub attempts : live.recorder.underway.attempts ≡ []
  pub unfinished : live.unfinished.items ≡ []

-- a turn begins: a pause from the due tick on is recorded
abbrev pub begun : {C Conn Run : Type 0} → C → Live C Conn Run → ℕ → Sweep C Conn Run
begun c live now = unpolled c (slept live.recorder.recorded live.recorder.due now) live.recorder.underway.attempts

module _ {C Conn Run : Type 0} (connector : ConnectorOf C Conn Run) (trial : TrialOf Run Conn) where
  -- the least of the due tick and the ticks at which unfinished attempts are due
  abbrev pub asked_tick : ℕ → List (Unfinished C Conn Run) → ℕ
  asked_tick due [] = due
  asked_tick due (o ∷ unfinished) = asked_tick (earliest due (due_of connector trial o.future)) unfinished

  -- after a poll of an attempt: a pending attempt is kept, as the poll left it; the outcome of one that answers is
  -- recorded
  abbrev pub after_poll : Sweep C Conn Run → Unfinished C Conn Run → ℕ → Poll (Finish Conn) → C
      → AttemptFuture C Conn Run → Sweep C Conn Run
  after_poll s o now Pending c future =
      record s { connector = c; pending = s.pending ++ record o { future = future } ∷ [] }
  after_poll s o now (Ready f) c future =
      record s { connector = c; recorded = told s.recorded o.attempt now f.result; first = first_of s.first f.result }

  -- each of the attempts is polled once at the tick: with the answer, the connector and the state that the poll
  -- leaves
  abbrev pub ArePolled : ℕ → Sweep C Conn Run → List (Unfinished C Conn Run) → Sweep C Conn Run → Type 0
  ArePolled now from [] to = to ≡ from
  ArePolled now from (o ∷ os) to =
      (answer : Poll (Finish Conn)) × (c : C) × (future : AttemptFuture C Conn Run)
      × AttemptPolls connector trial from.connector o.future now answer c future
      × ArePolled now (after_poll from o now answer c future) os to

  -- an attempt begins at its start
  pub record BeginsAt (c : C) (x : Attempt) (c' : C) (o : Unfinished C Conn Run) : Type 0 where
    pub attempt : o.attempt ≡ x
    pub polls : AttemptPolls connector trial c (Sleeping x.place x.ip x.tick) x.tick Pending c' o.future

  -- one more attempt was made; it begins at the tick of the turn, and comes after the others
  pub record BeginsNext (c : C) (now : ℕ) (xs all : List Attempt) (os : List (Unfinished C Conn Run)) (c' : C)
      (new : List (Unfinished C Conn Run)) : Type 0 where
    pub x : Attempt
    pub o : Unfinished C Conn Run
    pub more : all ≡ xs ++ x ∷ []
    pub at : x.tick ≡ now
    pub begins : BeginsAt c x c' o
    pub next : new ≡ os ++ o ∷ []

  -- no attempt was made, and nothing changes
  pub record StaysAs (c : C) (xs all : List Attempt) (os : List (Unfinished C Conn Run)) (c' : C)
      (new : List (Unfinished C Conn Run)) : Type 0 where
    pub none : all ≡ xs
    pub still : c' ≡ c
    pub same : new ≡ os

  abbrev pub StartsOne : C → ℕ → List Attempt → List Attempt → List (Unfinished C Conn Run) → C
      → List (Unfinished C Conn Run) → Type 0
  StartsOne c now xs all os c' new = StaysAs c xs all os c' new ⊎ BeginsNext c now xs all os c' new

  -- a turn of a race that goes on: each unfinished attempt was polled, the race is not over, and the attempt that is
  -- due begins
  pub record Goes (from : Sweep C Conn Run) (os : List (Unfinished C Conn Run)) (now : ℕ) (c' : C)
      (new : Live C Conn Run) (tick : ℕ) : Type 0 where
    pub swept : Sweep C Conn Run
    pub polled : ArePolled now from os swept
    pub going : is_over swept.recorded swept.attempts now swept.pending (is_some swept.first) ≡ false
    pub recorded : new.recorder.recorded ≡ swept.recorded
    pub starts : StartsOne swept.connector now swept.attempts new.recorder.underway.attempts swept.pending c' new.unfinished.items
    pub kept : IsLive connector trial new
    pub alike : AreAlike from.recorded new.recorder.recorded
    pub pauses : new.recorder.recorded.pauses ≡ from.recorded.pauses
    pub turn : new.recorder.turn ≡ Some now
    pub asked : tick ≡ asked_tick new.recorder.due new.unfinished.items

  -- a turn after which the race is over, with each unfinished attempt polled
  pub record EndsPolled (from : Sweep C Conn Run) (os : List (Unfinished C Conn Run)) (now : ℕ) (c' : C)
      (raced : Raced Conn) : Type 0 where
    pub swept : Sweep C Conn Run
    pub polled : ArePolled now from os swept
    pub over : is_over swept.recorded swept.attempts now swept.pending (is_some swept.first) ≡ true
    pub ended : EndsRace swept.recorded now swept.attempts (is_some swept.first)
    pub still : c' ≡ swept.connector
    pub recorded : raced.recorded ≡ swept.recorded
    pub winner : raced.winner ≡ swept.first
    pub replays : Replays from.recorded raced
    pub pauses : raced.recorded.pauses ≡ from.recorded.pauses

  -- past the limit the race ends, and nothing is polled
  pub record EndsLate (from : Sweep C Conn Run) (now : ℕ) (c' : C) (raced : Raced Conn) : Type 0 where
    pub late : from.recorded.settings.limit < now
    pub ended : EndsRace from.recorded from.recorded.settings.limit from.attempts false
    pub still : c' ≡ from.connector
    pub recorded : raced.recorded ≡ from.recorded
    pub winner : raced.winner ≡ None
    pub replays : Replays from.recorded raced

  -- a turn at the tick ends the race or goes on
  abbrev pub Turned : C → Live C Conn Run → ℕ → C → AfterPoll C Conn Run → Type 0
  Turned c live now c' (after_polls.Ended raced) =
      EndsLate (begun c live now) now c' raced ⊎ EndsPolled (begun c live now) live.unfinished.items now c' raced
  Turned c live now c' (after_polls.Waits new tick) = Goes (begun c live now) live.unfinished.items now c' new tick

  -- a poll takes a turn, unless there was one at the tick or later; then nothing changes, and the tick after the last
  -- turn is requested
  abbrev pub PolledFrom : Option ℕ → C → Live C Conn Run → ℕ → C → AfterPoll C Conn Run → Type 0
  PolledFrom None c live now c' step = Turned c live now c' step
  PolledFrom (Some turn) c live now c' step =
      MatchBool (nat_le now turn) ((c' ≡ c) × (step ≡ after_polls.Waits live (turn + 1))) (Turned c live now c' step)

  -- a poll at the tick; a tick past the limit counts as the one after it
  abbrev pub PolledAt : C → Live C Conn Run → ℕ → C → AfterPoll C Conn Run → Type 0
  PolledAt c live now c' step =
      PolledFrom live.recorder.turn c live (min now (live.recorder.recorded.settings.limit + 1)) c' step
