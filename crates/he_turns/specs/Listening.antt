-- Where a pending race has registered: in the context of its own poll, for all that its attempts and its source wait
-- for. A poll without a turn polls neither; its ticker wakes the task for the next turn. The public contracts of
-- `RaceFuture` and `ResolvingRace` cite it.
use Rattle.std.specs.Prelude.{ℕ, ◌≡◌, ◌⊎◌, List, Option, Some, IfNone, IfSome}
use Rattle.std.specs.List.{All}
use Rattle.futures.specs.Task.{Covers}
use Rattle.futures.specs.declared.task.context.Context.{Context}
use Rattle.he_addr.specs.declared.ip.Family.{Family}
use Rattle.he_addr.specs.declared.ip.Family.TheVariants as families
use Rattle.he_plan.specs.Agreement.{AreAlike}
use Rattle.he_timeline.specs.Race.{Race}
use Rattle.he_turns.specs.declared.answers.AnswerSource.{Ghosts as SourceOf}
use Rattle.he_turns.specs.declared.attempt.AttemptFuture.{AttemptFuture}
use Rattle.he_turns.specs.declared.connector.Connector.{Ghosts as ConnectorOf}
use Rattle.he_turns.specs.declared.live.Live.{Live}
use Rattle.he_turns.specs.declared.live.Unfinished.{Unfinished}
use Rattle.he_turns.specs.declared.trial.Trial.{Ghosts as TrialOf}
use Rattle.he_turns.specs.Attempt.{attempt_polls, due_of, needs_of}
use Rattle.he_turns.specs.Heard.{Hears, IsSilent}
use Rattle.he_turns.specs.Recording.{slept}
use Rattle.he_turns.specs.Waiting.{WaitsForTick}

module _ {C Conn Run : Type 0} (connector : ConnectorOf C Conn Run) (trial : TrialOf Run Conn) where
  -- the attempt listens: it has registered in this context for all that it needs, or stays pending up to the tick at
  -- which it is due
  abbrev pub Listens : Context → AttemptFuture C Conn Run → Type 0
  Listens cx attempt =
      Covers cx (needs_of connector trial attempt)
      ⊎ WaitsForTick (attempt_polls connector trial) attempt (due_of connector trial attempt)

  -- each unfinished attempt listens
  abbrev pub AllListen : Context → List (Unfinished C Conn Run) → Type 0
  AllListen cx unfinished = All (λ o. Listens cx o.future) unfinished

  -- the poll of a race that goes on took no turn, or has left each unfinished attempt listening
  abbrev pub TurnListens : Context → Live C Conn Run → Live C Conn Run → Type 0
  TurnListens cx was live = (live.recorder.turn ≡ was.recorder.turn) ⊎ AllListen cx live.unfinished.items

  abbrev pub RaceListens : Context → Option (Live C Conn Run) → Option (Live C Conn Run) → Type 0
  RaceListens cx old new = IfSome old (λ was. IfSome new (TurnListens cx was))

module _ {S : Type 0} (source : SourceOf S) where
  -- the source listens for the family: it has registered in this context for all that it needs to answer for it, or
  -- gives no more answers for it
  abbrev pub ListensFor : Context → S → Family → Type 0
  ListensFor cx s family = Covers cx (source.needs s family) ⊎ IsSilent source.hears s family

  -- in a turn at the tick the source is polled, and then listens, in the state that is left, for each family that
  -- still has no answer
  pub record SourceListens (cx : Context) (s : S) (race : Race) (now : ℕ) (s' : S) (heard : Race) : Type 0 where
    pub hears : Hears source.hears s race now s' heard
    pub six : IfNone heard.aaaa (ListensFor cx s' families.V6)
    pub four : IfNone heard.a (ListensFor cx s' families.V4)

  -- and the race that goes on has these answers
  pub record HeardListens (cx : Context) (s : S) (race : Race) (now : ℕ) (s' : S) (later : Race) : Type 0 where
    pub heard : Race
    pub listens : SourceListens cx s race now s' heard
    pub alike : AreAlike heard later

module _ {S C Conn Run : Type 0} (source : SourceOf S) where
  -- the poll of a race that goes on took no turn, or has left its source listening
  abbrev pub TurnHears : Context → S → Live C Conn Run → S → Live C Conn Run → Type 0
  TurnHears cx s was s' live =
      (live.recorder.turn ≡ was.recorder.turn)
      ⊎ ((now : ℕ) × (live.recorder.turn ≡ Some now)
      × HeardListens source cx s (slept was.recorder.recorded was.recorder.due now) now s' live.recorder.recorded)

  abbrev pub RaceHears : Context → S → Option (Live C Conn Run) → S → Option (Live C Conn Run) → Type 0
  RaceHears cx s old s' new = IfSome old (λ was. IfSome new (TurnHears cx s was s'))
