-- Races that run by the due steps, and the attempts that they start.
use Rattle.std.specs.Prelude.{ℕ, ◌≡◌, ◌+◌, ◌⊎◌, ◌++◌, List, [], ◌∷◌, None, Some, IsTrue, length, max, nat_le, nat_lt}
use Rattle.std.specs.List.{list_all}
use Rattle.he_addr.specs.declared.ip.Family.{Family}
use Rattle.he_timeline.specs.Building.{with_pause}
use Rattle.he_timeline.specs.Race.{Race, reply_of}
use Rattle.he_timeline.specs.Timeline.{IsRace}
use Rattle.he_plan.specs.Transcript.{IsTranscript, Report}
use Rattle.he_plan.specs.RaceState.{EndsOne}
use Rattle.he_plan.specs.declared.attempts.Attempt.{Attempt}
use Rattle.he_plan.specs.declared.transcript.Line.{Line}
use Rattle.he_turns.specs.Heard.{AnswerLists, with_told}
use Rattle.he_next.specs.Steps.{action_of, end_tick, late_start}
use Rattle.he_next.specs.declared.step.Action.{Action}
use Rattle.he_next.specs.declared.step.Action.TheVariants.{Start, Wait, Won, Exhausted, Limit}

-- the attempt of a line
abbrev pub attempt_of : Line → Attempt
attempt_of line = record { place = line.place; tick = line.tick; ip = line.ip }

-- all start before the tick
abbrev pub AreBelow : ℕ → List Attempt → Type 0
AreBelow tick xs = IsTrue (list_all (λ x. nat_lt x.tick tick) xs)

-- all start at the tick or before it
abbrev pub AreUpTo : ℕ → List Attempt → Type 0
AreUpTo tick xs = IsTrue (list_all (λ x. nat_le x.tick tick) xs)

-- the tick after the last start; 0 before the first one
abbrev pub tick_after : List Attempt → ℕ
tick_after [] = 0
tick_after (x ∷ xs) = max (x.tick + 1) (tick_after xs)

-- the tick of what happens while the clock shows `now`, which may be the tick of the last start: what happens then
-- comes after that start
abbrev pub event_tick : List Attempt → ℕ → ℕ
event_tick xs now = max now (tick_after xs)

-- the race of the record so far, and the attempts that were started
pub record State : Type 0 where
  pub race : Race
  pub attempts : List Attempt

-- a family's answer after the last start, with the knowledge of its addresses from earlier connections (RFC 8305
-- section 4: the lines `rtt` and `used`), and with the lines `source` and `route` that reach them
pub record Answers (old : State) (new : Race) : Type 0 where
  pub family : Family
  pub tick : ℕ
  pub answer : AnswerLists
  pub first : reply_of old.race family ≡ None
  pub told : new ≡ with_told old.race family tick (Some answer)
  pub late : AreBelow tick old.attempts

-- a pause from a tick after the last start on
pub record Sleeps (old : State) (new : Race) : Type 0 where
  pub from : ℕ
  pub to : ℕ
  pub told : new ≡ with_pause old.race from to
  pub late : AreBelow from old.attempts

-- an event after the last start is recorded: an answer, the end of one of the attempts, or a pause
pub record IsWritten (old new : State) : Type 0 where
  pub valid : IsRace new.race
  pub happened : Answers old new.race ⊎ ((x : Attempt) × EndsOne old.race new.race old.attempts x)
      ⊎ Sleeps old new.race
  pub same : new.attempts ≡ old.attempts

-- the attempts, including the one that starts
abbrev pub with_started : List Attempt → Action → List Attempt
with_started xs (Start place tick ip) = xs ++ record { place = place; tick = tick; ip = ip } ∷ []
with_started xs (Wait tick) = xs
with_started xs (Won place tick) = xs
with_started xs (Exhausted tick) = xs
with_started xs (Limit tick) = xs

-- the client does what is due, at the tick of the last start or a later one
pub record IsDone (old new : State) : Type 0 where
  pub now : ℕ
  pub started : AreUpTo now old.attempts
  pub report : Report
  pub transcript : IsTranscript old.race report
  pub starts : new.attempts ≡ with_started old.attempts (action_of report (length old.attempts) now)
  pub same : new.race ≡ old.race

-- a running race: from its beginning over these states, the last one first, to this one
abbrev pub Runs : Race → List State → State → Type 0
Runs first [] state = state ≡ record { race = first; attempts = [] }
Runs first (old ∷ earlier) state = Runs first earlier old × (IsWritten old state ⊎ IsDone old state)

-- the race has ended by the tick, after all its starts, and the client was not late
pub record IsOver (report : Report) (xs : List Attempt) (now : ℕ) : Type 0 where
  pub ended : AreBelow (end_tick report.result) xs
  pub past : IsTrue (nat_le (end_tick report.result) now)
  pub in_time : late_start report (length xs) now ≡ None
