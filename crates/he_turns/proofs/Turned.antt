-- A poll at a tick after the last turn is a turn.
use Rattle.std.proofs.Common.{◌≡◌, ℕ, ◌+◌, ◌≤◌, Bool, true, false, min, nat_le, Option, Some, None, subst, arith}
use Rattle.std.specs.Prelude.{MatchBool}
use Rattle.he_timeline.proofs.Bools.{not_le}
use Rattle.he_plan.specs.Due.{IsAfterTurn}
use Rattle.he_turns.specs.declared.connector.Connector.{Ghosts as ConnectorOf}
use Rattle.he_turns.specs.declared.live.AfterPoll.{AfterPoll}
use Rattle.he_turns.specs.declared.live.AfterPoll.TheVariants as after_polls
use Rattle.he_turns.specs.declared.live.Live.{Live}
use Rattle.he_turns.specs.declared.trial.Trial.{Ghosts as TrialOf}
use Rattle.he_turns.specs.Kept.{first_after, IsLive}
use Rattle.he_turns.specs.Turns.{PolledAt, PolledFrom, Turned}

pub at_false : (X Y : Type 0) (b : Bool) → b ≡ false → MatchBool b X Y → Y
at_false X Y false e y = y
at_false X Y true e x = let P : Bool → Type 0 = λ b. MatchBool b X Y in subst P e x

module _ {C Conn Run : Type 0} (connector : ConnectorOf C Conn Run) (trial : TrialOf Run Conn) (c c' : C) (live : Live C Conn Run) (at : ℕ) where
  abbrev counted : ℕ
  counted = min at (live.recorder.recorded.settings.limit + 1)

  pub polled-turned : IsLive connector trial live → first_after live.recorder.turn ≤ at → (now : ℕ) → now ≡ at → (step : AfterPoll C Conn Run) → PolledAt connector trial c live now c' step → Turned connector trial c live counted c' step
  polled-turned kept later now stands step h = by_turn live.recorder.turn later kept.recorder.rests.after (subst (λ (n : ℕ). PolledAt connector trial c live n c' step) stands h)
    where
      by_turn : (turn : Option ℕ) → first_after turn ≤ at → IsAfterTurn live.recorder.recorded turn live.recorder.underway.attempts → PolledFrom connector trial turn c live counted c' step → Turned connector trial c live counted c' step
      by_turn None later after h = h
      by_turn (Some turn) later after h =
          at_false ((c' ≡ c) × (step ≡ after_polls.Waits live (turn + 1))) (Turned connector trial c live counted c' step) (nat_le counted turn) (not_le counted turn (omega (arith, after.1))) h
