-- Mirrors the code: what is carried from one attempt of a transcript to the next.
use Rattle.std.specs.Prelude.{ℕ, ◌≡◌, false, List, length, map, nat_lt, take}
use Rattle.std.specs.List.{list_any}
use Rattle.he_addr.specs.declared.ip.Ip.{Ip}
use Rattle.he_plan.specs.declared.transcript.Line.{Line}
use Rattle.he_timeline.specs.Race.{Race, addresses_of}
use Rattle.he_course.specs.declared.stages.Started.{Started}
use Rattle.he_course.specs.Accounts.{is_left}
use Rattle.he_course.specs.Causes.{last_failure}
use Rattle.he_course.specs.Events.{attempt_of}

-- none of the addresses before the place is left, and the one at it is, if there is one
pub record IsFirstLeft (started : List Line) (ips : List Ip) (place : ℕ) : Type 0 where
  pub before : list_any (is_left started) (take place ips) ≡ false
  pub there : list_any (is_left started) ips ≡ nat_lt place (length ips)

pub record AreStarted (race : Race) (started : Started) : Type 0 where
  pub failed : started.failed ≡ last_failure race (map attempt_of started.lines.now)
  pub aaaa : IsFirstLeft started.lines.now (addresses_of race.aaaa) started.aaaa
  pub a : IsFirstLeft started.lines.now (addresses_of race.a) started.a
