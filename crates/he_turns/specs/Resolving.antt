-- A turn of a race whose answers come while it runs, and what its record keeps. The public contracts of
-- `ResolvingRace` cite it.
use Rattle.std.specs.Prelude.{ℕ, ◌≡◌, ◌+◌, ◌++◌, ◌⊎◌, ⊤, min, nat_le, is_some, MatchBool, List, Option, Some, None}
use Rattle.he_select.specs.Hosts.{HostLists}
use Rattle.he_timeline.specs.Race.{History, Race, Reply}
use Rattle.he_plan.specs.Transcript.{IsTranscript}
use Rattle.he_turns.specs.declared.connector.Connector.{Ghosts as ConnectorOf}
use Rattle.he_turns.specs.declared.live.AfterPoll.{AfterPoll}
use Rattle.he_turns.specs.declared.live.AfterPoll.TheVariants as after_polls
use Rattle.he_turns.specs.declared.live.Live.{Live}
use Rattle.he_turns.specs.declared.live.Raced.{Raced}
use Rattle.he_turns.specs.declared.live.Unfinished.{Unfinished}
use Rattle.he_turns.specs.declared.trial.Trial.{Ghosts as TrialOf}
use Rattle.he_turns.specs.Heard.{Hears, Tells}
use Rattle.he_turns.specs.Polling.{TurnsFrom}
use Rattle.he_turns.specs.Recording.{is_won}
use Rattle.he_turns.specs.Turns.{EndsLate, Sweep, begun}

module _ {S C Conn Run : Type 0} (hears : Tells S) (connector : ConnectorOf C Conn Run)
    (trial : TrialOf Run Conn) where
  -- the source is polled, its answers are recorded, and the turn goes on as that of a race with these answers
  pub record HearsAndTurns (s : S) (from : Sweep C Conn Run) (os : List (Unfinished C Conn Run)) (now : ℕ) (s' : S)
      (c' : C) (step : AfterPoll C Conn Run) : Type 0 where
    pub race : Race
    pub heard : Hears hears s from.recorded now s' race
    pub turns : TurnsFrom connector trial (record from { recorded = race }) os now c' step

  -- past the limit the race ends, and neither the source nor an attempt is polled
  abbrev pub EndsUnheard : S → Sweep C Conn Run → ℕ → S → C → AfterPoll C Conn Run → Type 0
  EndsUnheard s from now s' c' (after_polls.Ended raced) = (s' ≡ s) × EndsLate connector trial from now c' raced
  EndsUnheard s from now s' c' (after_polls.Waits new tick) = ⊥

  -- a turn at the tick
  abbrev pub HeardTurn : S → C → Live C Conn Run → ℕ → S → C → AfterPoll C Conn Run → Type 0
  HeardTurn s c live now s' c' step =
      EndsUnheard s (begun c live now) now s' c' step
      ⊎ HearsAndTurns s (begun c live now) live.unfinished.items now s' c' step

  -- a poll takes a turn, unless there was one at the tick or later; then nothing changes, the source isn't polled,
  -- and the tick after the last turn is requested
  abbrev pub HeardFrom : Option ℕ → S → C → Live C Conn Run → ℕ → S → C → AfterPoll C Conn Run → Type 0
  HeardFrom None s c live now s' c' step = HeardTurn s c live now s' c' step
  HeardFrom (Some turn) s c live now s' c' step =
      MatchBool (nat_le now turn) ((s' ≡ s) × (c' ≡ c) × (step ≡ after_polls.Waits live (turn + 1)))
      (HeardTurn s c live now s' c' step)

  -- a poll at the tick; a tick past the limit counts as the one after it
  abbrev pub HeardAt : S → C → Live C Conn Run → ℕ → S → C → AfterPoll C Conn Run → Type 0
  HeardAt s c live now s' c' step =
      HeardFrom live.recorder.turn s c live (min now (live.recorder.recorded.settings.limit + 1)) s' c' step

-- an existing answer is kept
abbrev pub KeepsAnswer : Option Reply → Option Reply → Type 0
KeepsAnswer None later = ⊤
KeepsAnswer (Some reply) later = later ≡ Some reply

-- the second list begins with the first
pub record BeginsWith {X : Type 0} (first later : List X) : Type 0 where
  pub more : List X
  pub is : later ≡ first ++ more

-- the known history is kept, and new knowledge comes after it
pub record KeepsHistory (history later : History) : Type 0 where
  pub rtts : BeginsWith history.rtts later.rtts
  pub used : BeginsWith history.used later.used

-- the host's sources and routes are kept, and new ones come after them
pub record KeepsHost (host later : HostLists) : Type 0 where
  pub sources : BeginsWith host.sources later.sources
  pub routes : BeginsWith host.routes later.routes

-- the second race has the first one's settings and policy and each answer that the first one has; its host and its
-- history begin with the first one's
pub record KeepsGiven (race later : Race) : Type 0 where
  pub settings : later.settings ≡ race.settings
  pub policy : later.policy ≡ race.policy
  pub host : KeepsHost race.host later.host
  pub history : KeepsHistory race.history later.history
  pub aaaa : KeepsAnswer race.aaaa later.aaaa
  pub a : KeepsAnswer race.a later.a

-- the record replays: it keeps what was given, its transcript is that of the rules, and there is a winner's
-- connection exactly if the race was won
pub record ReplaysGiven {Conn : Type 0} (race : Race) (raced : Raced Conn) : Type 0 where
  pub kept : KeepsGiven race raced.recorded
  pub transcript : IsTranscript raced.recorded raced.transcript
  pub winner : is_some raced.winner ≡ is_won raced.transcript.result
