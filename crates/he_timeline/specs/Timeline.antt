-- The ranges of a race, which every timeline keeps.
use Rattle.std.specs.Prelude.{ℕ, ◌≤◌, ◌&&◌, Bool, true, not, List, [], ◌∷◌, length, Option, Some, None, IsTrue, nat_le, nat_lt}
use Rattle.std.specs.List.{list_all}
use Rattle.he_addr.specs.declared.ip.Family.{Family}
use Rattle.he_addr.specs.declared.ip.Family.TheVariants as families
use Rattle.he_addr.specs.declared.ip.Ip.{Ip}
use Rattle.he_addr.specs.Ip.{is_v6}
use Rattle.he_timeline.specs.declared.outcome.Outcome.{Outcome}
use Rattle.he_timeline.specs.declared.outcome.Outcome.TheVariants as outcomes
use Rattle.he_timeline.specs.declared.limits.TheConstants.{MAX_TICK, MAX_ADDRESSES, MIN_DURATION, MAX_DURATION, MAX_PAUSES, MAX_PAUSE_END}
use Rattle.he_timeline.specs.Settings.{IsSettings}
use Rattle.he_timeline.specs.Race.{Race, Reply, has_ip, is_in_answer, is_told}
use Rattle.he_select.specs.Hosts.{IsHost}
use Rattle.he_select.specs.Tables.{IsAdmitted}

abbrev pub is_of : Family → Ip → Bool
is_of families.V6 ip = is_v6 ip
is_of families.V4 ip = not (is_v6 ip)

abbrev pub are_of : Family → List Ip → Bool
are_of family ips = list_all (is_of family) ips

-- no address appears twice
abbrev pub are_distinct : List Ip → Bool
are_distinct [] = true
are_distinct (ip ∷ ips) = not (has_ip ip ips) && are_distinct ips

abbrev pub is_answer : Family → Option Reply → Bool
is_answer family None = true
is_answer family (Some reply) =
    nat_le reply.tick MAX_TICK && nat_le (length reply.addresses) MAX_ADDRESSES
    && are_of family reply.addresses && are_distinct reply.addresses

abbrev pub duration_of : Outcome → ℕ
duration_of (outcomes.Ok duration) = duration
duration_of (outcomes.Fail duration) = duration

abbrev pub is_duration : ℕ → Bool
is_duration duration = nat_le MIN_DURATION duration && nat_le duration MAX_DURATION

-- an outcome's duration is in range, and its address is in an answer
abbrev pub is_outcome : Race → Ip × Outcome → Bool
is_outcome race p = is_duration (duration_of p.1) && is_in_answer race p.0

-- no address has two entries
abbrev pub are_told_once : {V : Type 0} → List (Ip × V) → Bool
are_told_once [] = true
are_told_once (p ∷ told) = not (is_told p.0 told) && are_told_once told

-- a round trip time is in the range of a duration, and its address is in an answer
abbrev pub is_rtt : Race → Ip × ℕ → Bool
is_rtt race p = is_duration p.1 && is_in_answer race p.0

-- each pause ends after its start, and begins at or after `low` or the end of the one before it
abbrev pub are_pauses : ℕ → List (ℕ × ℕ) → Bool
are_pauses low [] = true
are_pauses low (p ∷ pauses) = nat_le low p.0 && nat_lt p.0 p.1 && nat_le p.1 MAX_PAUSE_END && are_pauses p.1 pauses

pub record IsRace (race : Race) : Type 0 where
  pub settings : IsSettings race.settings
  pub policy : IsAdmitted race.policy
  pub host : IsHost race.host
  pub aaaa : IsTrue (is_answer families.V6 race.aaaa)
  pub a : IsTrue (is_answer families.V4 race.a)
  pub rtts : IsTrue (list_all (is_rtt race) race.history.rtts)
  pub rtts_once : IsTrue (are_told_once race.history.rtts)
  pub used : IsTrue (list_all (is_in_answer race) race.history.used)
  pub used_once : IsTrue (are_distinct race.history.used)
  pub outcomes : IsTrue (list_all (is_outcome race) race.outcomes)
  pub once : IsTrue (are_told_once race.outcomes)
  pub pauses : IsTrue (are_pauses 0 race.pauses)
  pub few : length race.pauses ≤ MAX_PAUSES
