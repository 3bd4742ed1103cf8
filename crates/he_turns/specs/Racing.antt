-- A poll of a race: the tick that it takes from the ticker and the one that it requests, and its result.
use Rattle.std.specs.Prelude.{ℕ, ◌≡◌, ⊤, Option, Some, None, Result, Ok, Err}
use Rattle.futures.specs.declared.task.Poll.{Poll}
use Rattle.futures.specs.declared.task.Poll.TheVariants.{Ready, Pending}
use Rattle.he_turns.specs.declared.connector.Connector.{Ghosts as ConnectorOf}
use Rattle.he_turns.specs.declared.faults.RaceFault.{RaceFault}
use Rattle.he_turns.specs.declared.faults.RaceFault.TheVariants as faults
use Rattle.he_turns.specs.declared.faults.TickFault.{TickFault}
use Rattle.he_turns.specs.declared.faults.TickFault.TheVariants as clocks
use Rattle.he_turns.specs.declared.live.Live.{Live}
use Rattle.he_turns.specs.declared.live.Raced.{Raced}
use Rattle.he_turns.specs.declared.live.AfterPoll.{AfterPoll}
use Rattle.he_turns.specs.declared.live.AfterPoll.TheVariants as after_polls
use Rattle.he_turns.specs.declared.race.RaceFuture.{RaceFuture}
use Rattle.he_turns.specs.declared.ticker.Ticker.{Ghosts as TickerOf}
use Rattle.he_turns.specs.declared.trial.Trial.{Ghosts as TrialOf}
use Rattle.he_turns.specs.Turns.{PolledAt}

-- the race's fault for a fault of the ticker
abbrev pub fault_of : TickFault → RaceFault
fault_of clocks.Memory = faults.Memory
fault_of clocks.Lost = faults.Clock

-- the steps of the race itself at a tick: the connector and the race before, the connector after, and the outcome of
-- the poll
abbrev pub StepOf : Type 0 → Type 0 → Type 0 → Type 1
StepOf C Conn Run = C → Live C Conn Run → ℕ → C → AfterPoll C Conn Run → Type 0

module _ {C Conn Run T : Type 0} (steps : StepOf C Conn Run) (ticker : TickerOf T) where
  -- the race goes on and is next polled at a tick, which is requested from the ticker
  pub record AsksFor (old : RaceFuture C T Conn Run) (live : Live C Conn Run) (new : RaceFuture C T Conn Run)
      (answer : Result (Unit {0}) TickFault) : Type 0 where
    pub now : ℕ
    pub told : T
    pub tells : ticker.tells old.ticker now told
    pub next : Live C Conn Run
    pub tick : ℕ
    pub polled : steps old.connector live now new.connector (after_polls.Waits next tick)
    pub asks : ticker.wakes told tick answer new.ticker

  pub record GoesOn (old : RaceFuture C T Conn Run) (live : Live C Conn Run)
      (new : RaceFuture C T Conn Run) : Type 0 where
    pub asked : AsksFor old live new (Ok tt)
    pub next : new.live ≡ Some asked.next

  -- the race has ended
  pub record Ends (old : RaceFuture C T Conn Run) (live : Live C Conn Run) (new : RaceFuture C T Conn Run)
      (raced : Raced Conn) : Type 0 where
    pub now : ℕ
    pub tells : ticker.tells old.ticker now new.ticker
    pub polled : steps old.connector live now new.connector (after_polls.Ended raced)

  -- a fault: the clock is lost only if the ticker reports it
  abbrev pub Fails : RaceFuture C T Conn Run → Live C Conn Run → RaceFuture C T Conn Run → RaceFault → Type 0
  Fails old live new faults.Memory = ⊤
  Fails old live new faults.Clock = AsksFor old live new (Err clocks.Lost)
  Fails old live new faults.Over = ⊥

  -- a poll of a race that is not over
  abbrev pub LivePolls : RaceFuture C T Conn Run → Live C Conn Run → Poll (Result (Raced Conn) RaceFault)
      → RaceFuture C T Conn Run → Type 0
  LivePolls old live Pending new = GoesOn old live new
  LivePolls old live (Ready (Ok raced)) new = Ends old live new raced
  LivePolls old live (Ready (Err fault)) new = Fails old live new fault

  -- a poll; after the race has given its result, it is over
  abbrev pub PollsFrom : Option (Live C Conn Run) → RaceFuture C T Conn Run → Poll (Result (Raced Conn) RaceFault)
      → RaceFuture C T Conn Run → Type 0
  PollsFrom None old result new = (result ≡ Ready (Err faults.Over)) × (new ≡ old)
  PollsFrom (Some live) old result new = LivePolls old live result new

  abbrev pub RacePollsBy : RaceFuture C T Conn Run → Poll (Result (Raced Conn) RaceFault) → RaceFuture C T Conn Run
      → Type 0
  RacePollsBy old result new = PollsFrom old.live old result new

-- a poll of a race whose answers are known
abbrev pub RacePolls : {C Conn Run T : Type 0} → ConnectorOf C Conn Run → TrialOf Run Conn → TickerOf T
    → RaceFuture C T Conn Run → Poll (Result (Raced Conn) RaceFault) → RaceFuture C T Conn Run → Type 0
RacePolls connector trial ticker old result new = RacePollsBy (PolledAt connector trial) ticker old result new
