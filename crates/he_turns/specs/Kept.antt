-- Mirrors the code: the invariants of a running race between turns and within one, on its record, on the attempts
-- made and on the unfinished ones. Each poll keeps them.
use Rattle.std.specs.Prelude.{ℕ, ◌≡◌, ◌+◌, ◌<◌, ◌≤◌, ◌&&◌, ◌⊎◌, length, not, Bool, true, false, IsTrue, List, [], ◌∷◌, Option, Some, None, if◌then◌else◌, IfSome}
use Rattle.std.specs.List.{All, Contains, list_any, list_all}
use Rattle.he_addr.specs.declared.ip.Ip.{Ip}
use Rattle.he_addr.specs.Ip.{same_ip}
use Rattle.he_plan.specs.declared.attempts.Attempt.{Attempt}
use Rattle.he_timeline.specs.declared.outcome.Outcome.{Outcome}
use Rattle.he_timeline.specs.Building.{last_end}
use Rattle.he_timeline.specs.Race.{Race, has_outcome, Reply, outcome_of}
use Rattle.he_timeline.specs.Timeline.{IsRace}
use Rattle.he_plan.specs.RaceState.{IsUnderway, MakesNext}
use Rattle.he_turns.specs.declared.connector.Connector.{Ghosts as ConnectorOf}
use Rattle.he_turns.specs.declared.recorder.Recorder.{Recorder}
use Rattle.he_turns.specs.declared.live.Live.{Live}
use Rattle.he_turns.specs.declared.live.Unfinished.{Unfinished}
use Rattle.he_turns.specs.declared.trial.Trial.{Ghosts as TrialOf}
use Rattle.he_turns.specs.Answered.{is_taken}
use Rattle.he_turns.specs.Attempt.{CanPoll}
use Rattle.he_plan.specs.Attempts.{AreNextInTurn, MayStart, is_tried}
use Rattle.he_timeline.specs.Seen.{IsFree}
use Rattle.he_plan.specs.Due.{IsAfterTurn, IsDueTick}
use Rattle.he_turns.specs.Recording.{EndedBy, EndsRace, HasSuccess}
use Rattle.he_timeline.specs.declared.outcome.Outcome.TheVariants as outcomes

-- the first tick after the last turn
abbrev pub first_after : Option ℕ → ℕ
first_after None = 0
first_after (Some turn) = turn + 1

-- the outcome is a failure, at a free tick below this one
abbrev pub FailedBelow : Race → ℕ → Attempt → Outcome → Type 0
FailedBelow race below x (outcomes.Ok duration) = ⊥
FailedBelow race below x (outcomes.Fail duration) = IsFree race (x.tick + duration) × (x.tick + duration < below)

-- the attempts are those of the record so far: each is next in turn, and an address has an outcome only if it was
-- tried
pub record AreMade (race : Race) (xs : List Attempt) : Type 0 where
  pub in_turn : AreNextInTurn race xs
  pub tried : IsTrue (list_all (λ p. is_tried xs p.0) race.outcomes)

-- the number of answers that the turn, or one before it, has taken
abbrev pub taken_of : Option ℕ → Option Reply → ℕ
taken_of turn None = 0
taken_of turn (Some reply) = if is_taken turn reply.tick then 1 else 0

abbrev pub taken : Option ℕ → Race → ℕ
taken turn race = taken_of turn race.aaaa + taken_of turn race.a

-- between two turns: every attempt was made, and ended if it did, by the last turn, which left none to start; for
-- each pause an answer was taken or an attempt made
pub record Rests (race : Race) (turn : Option ℕ) (xs : List Attempt) : Type 0 where
  pub valid : IsRace race
  pub made : AreMade race xs
  pub past : All (λ x. x.tick < first_after turn) xs
  pub over : last_end race.pauses ≤ first_after turn
  pub failed : All (λ x. IfSome (outcome_of race x.ip) (FailedBelow race (first_after turn) x)) xs
  pub after : IsAfterTurn race turn xs
  pub few : length race.pauses ≤ taken turn race + length xs

-- in a turn, with or without an attempt that succeeded in it; there is one pause more than answers taken and attempts
-- made only if an attempt may start at once
pub record InTurn (race : Race) (now : ℕ) (xs : List Attempt) (won : Bool) : Type 0 where
  pub valid : IsRace race
  pub made : AreMade race xs
  pub past : All (λ x. x.tick < now) xs
  pub over : last_end race.pauses ≤ now
  pub ended : All (λ x. IfSome (outcome_of race x.ip) (EndedBy race now won x)) xs
  pub stops : (t : ℕ) → MayStart race xs t → now ≤ t
  pub success : won ≡ true → HasSuccess race xs
  pub few : length race.pauses ≤ taken (Some now) race + length xs + 1
  pub starts : taken (Some now) race + length xs < length race.pauses → now < race.settings.limit
      → MayStart race xs now

-- a turn has begun: no attempt has ended in it
pub record Begins (race : Race) (now : ℕ) (xs : List Attempt) : Type 0 where
  pub in_turn : InTurn race now xs false
  pub failed : All (λ x. IfSome (outcome_of race x.ip) (FailedBelow race now x)) xs

-- the invariant of a race between two turns
pub record IsRecorder (c : Recorder) : Type 0 where
  pub rests : Rests c.recorded c.turn c.underway.attempts
  pub due : IsDueTick c.recorded c.turn c.underway.attempts c.due
  pub underway : IsUnderway c.recorded c.underway

-- the race has ended, won or not
pub record IsEnded (race : Race) (xs : List Attempt) (won : Bool) : Type 0 where
  pub stop : ℕ
  pub ends : EndsRace race stop xs won

-- no attempt is made, or the next one at the tick
abbrev pub MakesOne : Race → List Attempt → List Attempt → ℕ → Type 0
MakesOne race xs all now = (all ≡ xs) ⊎ MakesNext race xs all now

-- no address of these attempts has an outcome, and none occurs twice
abbrev pub are_untold : {C Conn Run : Type 0} → List (Ip × Outcome) → List (Unfinished C Conn Run) → Bool
are_untold told [] = true
are_untold told (o ∷ os) =
    not (has_outcome o.attempt.ip told) && not (list_any (λ p. same_ip p.attempt.ip o.attempt.ip) os)
    && are_untold told os

module _ {C Conn Run : Type 0} (connector : ConnectorOf C Conn Run) (trial : TrialOf Run Conn) where
  -- an attempt of the race that may be polled
  pub record IsUnfinished (xs : List Attempt) (o : Unfinished C Conn Run) : Type 0 where
    pub made : Contains xs o.attempt
    pub can : CanPoll connector trial o.future

  -- the invariant between two polls
  pub record IsLive (live : Live C Conn Run) : Type 0 where
    pub recorder : IsRecorder live.recorder
    pub unfinished : All (IsUnfinished live.recorder.underway.attempts) live.unfinished.items
    pub untold : IsTrue (are_untold live.recorder.recorded.outcomes live.unfinished.items)
