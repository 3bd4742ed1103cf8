-- A race's transcript: the attempts made, the end of each, and how the race ended (RFC 8305 section 5).
use Rattle.std.specs.Prelude.{ℕ, ◌≡◌, ◌≤◌, ◌⊎◌, ◌&&◌, ◌||◌, Bool, true, false, not, if◌then◌else◌, List, [], ◌∷◌, map, filter, max, Option, Some, None, nat_eq, nat_le, nat_lt}
use Rattle.std.specs.List.{list_all, AllZip}
use Rattle.std.specs.Option.{option_map_or}
use Rattle.he_addr.specs.Ip.{is_usable}
use Rattle.he_plan.specs.declared.attempts.Attempt.{Attempt}
use Rattle.he_plan.specs.declared.finish.Fate.{Fate}
use Rattle.he_plan.specs.declared.finish.Fate.TheVariants as fates
use Rattle.he_plan.specs.declared.transcript.Line.{Line}
use Rattle.he_plan.specs.declared.transcript.Mark.{Mark}
use Rattle.he_plan.specs.declared.transcript.Mark.TheVariants as marks
use Rattle.he_plan.specs.declared.transcript.Outcome3.{Outcome3}
use Rattle.he_plan.specs.declared.transcript.Outcome3.TheVariants as results
use Rattle.he_timeline.specs.Race.{Race, Reply}
use Rattle.he_plan.specs.Attempts.{AreAttempts, AreNextInTurn, MayStart, is_tried}
use Rattle.he_timeline.specs.Seen.{seen}
use Rattle.he_plan.specs.Finish.{fate_of, known_at, IsWinner, IsSuccess}

-- the value of a transcript
pub record Report : Type 0 where
  pub lines : List Line
  pub result : Outcome3

-- the winner's finish, or the limit
abbrev pub stop_of : Race → Option (ℕ × ℕ) → ℕ
stop_of race winner = option_map_or (λ w. w.0) winner race.settings.limit

abbrev pub is_place : Option (ℕ × ℕ) → ℕ → Bool
is_place winner place = option_map_or (λ w. nat_eq w.1 place) winner false

-- a failure at or before the stop; otherwise cancelled at the stop
abbrev pub failed_mark : ℕ → Fate → Mark
failed_mark stop (fates.Failed finish) = if nat_le finish stop then marks.Failed finish else marks.Cancelled stop
failed_mark stop _ = marks.Cancelled stop

-- the mark of the attempt at this place, where the race stops at `stop`
abbrev pub mark_at : ℕ → Option (ℕ × ℕ) → ℕ → Fate → Mark
mark_at stop winner place fate = if is_place winner place then marks.Won stop else failed_mark stop fate

abbrev pub mark_of : Race → Option (ℕ × ℕ) → ℕ → Fate → Mark
mark_of race winner place fate = mark_at (stop_of race winner) winner place fate

abbrev pub line_of : Race → Option (ℕ × ℕ) → Attempt → Line
line_of race winner x =
    record { place = x.place; tick = x.tick; ip = x.ip; mark = mark_of race winner x.place (fate_of race x) }

-- the attempts that start before the stop
abbrev pub lines_of : Race → Option (ℕ × ℕ) → List Attempt → List Line
lines_of race winner attempts = map (line_of race winner) (filter (λ x. nat_lt x.tick (stop_of race winner)) attempts)

-- each attempt failed
abbrev pub is_failed : Fate → Bool
is_failed (fates.Failed finish) = true
is_failed _ = false

-- the ticks at which attempts failed
abbrev pub failures : List Fate → List ℕ
failures [] = []
failures (fates.Failed finish ∷ told) = finish ∷ failures told
failures (_ ∷ told) = failures told

abbrev pub greatest : List ℕ → ℕ
greatest [] = 0
greatest (tick ∷ ticks) = max tick (greatest ticks)

-- each usable address of the answer was tried
abbrev pub is_tried_out : List Attempt → Reply → Bool
is_tried_out attempts reply = list_all (λ ip. not (is_usable ip) || is_tried attempts ip) reply.addresses

-- both answers are seen by the limit, each of their usable addresses was tried, and each attempt failed by the limit
abbrev pub is_exhausted : Race → List Attempt → List Fate → Reply → Reply → Bool
is_exhausted race attempts told aaaa a =
    nat_le (seen race aaaa.tick) race.settings.limit && nat_le (seen race a.tick) race.settings.limit
    && is_tried_out attempts aaaa && is_tried_out attempts a && list_all is_failed told

-- then the race ends at the greatest of both seen ticks and all failures; otherwise at the limit
abbrev pub without_winner : Race → List Attempt → List Fate → Option Reply → Option Reply → Outcome3
without_winner race attempts told (Some aaaa) (Some a) =
    if is_exhausted race attempts told aaaa a
    then results.Exhausted (greatest (seen race aaaa.tick ∷ seen race a.tick ∷ failures told))
    else results.Limit race.settings.limit
without_winner race attempts told _ _ = results.Limit race.settings.limit

abbrev pub result_of : Race → List Attempt → List Fate → Option (ℕ × ℕ) → Outcome3
result_of race attempts told (Some winner) = results.Won winner.1 winner.0
result_of race attempts told None = without_winner race attempts told race.aaaa race.a

-- the transcript of a race
pub record IsTranscript (race : Race) (report : Report) : Type 0 where
  pub attempts : List Attempt
  pub winner : Option (ℕ × ℕ)
  pub are : AreAttempts race attempts
  pub wins : IsWinner (map (fate_of race) attempts) winner
  pub lines : report.lines ≡ lines_of race winner attempts
  pub result : report.result ≡ result_of race attempts (map (fate_of race) attempts) winner

-- a success in `told` finishes at or before the start
pub record IsBeaten (told : List Fate) (start : ℕ) : Type 0 where
  pub key : ℕ × ℕ
  pub success : IsSuccess told key
  pub before : key.0 ≤ start

-- the given fate of an attempt is its own, or Skipped if a success comes before its start
abbrev pub IsToldFate : Race → List Fate → Attempt → Fate → Type 0
IsToldFate race told x fate = (fate ≡ fate_of race x) ⊎ ((fate ≡ fates.Skipped) × IsBeaten told x.tick)

-- the arguments are the race's plan, one fate for each attempt, and the winner of these fates
pub record AreTold (race : Race) (attempts : List Attempt) (told : List Fate) (winner : Option (ℕ × ℕ)) : Type 0 where
  pub are : AreAttempts race attempts
  pub fates : AllZip (IsToldFate race told) attempts told
  pub wins : IsWinner told winner

-- the arguments are the attempts that a race makes up to its stop, their fates known there, and the winner of these
pub record AreKnown (race : Race) (attempts : List Attempt) (known : List Fate)
    (winner : Option (ℕ × ℕ)) : Type 0 where
  pub in_turn : AreNextInTurn race attempts
  pub stops : (t : ℕ) → MayStart race attempts t → stop_of race winner ≤ t
  pub fates : known ≡ map (known_at race (stop_of race winner)) attempts
  pub wins : IsWinner known winner
