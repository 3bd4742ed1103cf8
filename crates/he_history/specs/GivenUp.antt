-- The record of a race whose client left before it ended.
use Rattle.std.specs.Prelude.{ℕ, ◌≡◌, ◌==◌, ◌&&◌, Bool, true, List, map}
use Rattle.std.specs.Cmp.Lexicographic.{pointwise}
use Rattle.he_addr.specs.Ip.{same_ip}
use Rattle.he_addr.specs.declared.ip.Ip.{Ip}
use Rattle.he_plan.specs.Transcript.{IsTranscript}
use Rattle.he_plan.specs.declared.transcript.Line.{Line}
use Rattle.he_history.specs.declared.giving_up.GivenUp.{GivenUp}

-- the address of a line's attempt, and when it started
abbrev pub start_of : Line → Ip × ℕ
start_of line = (line.ip, line.tick)

abbrev pub same_start : Ip × ℕ → Ip × ℕ → Bool
same_start start other = same_ip start.0 other.0 && start.1 == other.1

-- the lines have equal attempts, in order
abbrev pub are_same : List Line → List Line → Bool
are_same lines others = pointwise same_start (map start_of lines) (map start_of others)

-- the race's limit is the tick at which it was given up, and it replays to the attempts that were made, those of
-- these lines
pub record IsGivenUp (tick : ℕ) (made : List Line) (kept : GivenUp) : Type 0 where
  pub limit : kept.recorded.settings.limit ≡ tick
  pub transcript : IsTranscript kept.recorded kept.transcript
  pub attempts : are_same kept.transcript.lines made ≡ true
