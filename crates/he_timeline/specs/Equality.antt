-- Mirrors the code: equality of two timelines, field by field. The laws of `==` show that it is equality of values.
use Rattle.std.specs.Prelude.{ℕ, ◌==◌, ◌&&◌, Bool, true, false, Option, Some, None}
use Rattle.std.specs.Cmp.Lexicographic.{pointwise}
use Rattle.he_addr.specs.Ip.{same_ip}
use Rattle.he_addr.specs.declared.ip.Ip.{Ip}
use Rattle.he_timeline.specs.declared.outcome.Outcome.{Outcome}
use Rattle.he_timeline.specs.declared.outcome.Outcome.TheVariants as outcomes
use Rattle.he_timeline.specs.Race.{History, Race, Reply}
use Rattle.he_timeline.specs.Settings.{SettingValues}
use Rattle.he_select.specs.Equality.{equal_hosts, equal_tables}

abbrev pub same_outcome : Outcome → Outcome → Bool
same_outcome (outcomes.Ok m) (outcomes.Ok n) = m == n
same_outcome (outcomes.Fail m) (outcomes.Fail n) = m == n
same_outcome _ _ = false

abbrev pub same_told : Ip × Outcome → Ip × Outcome → Bool
same_told p q = same_ip p.0 q.0 && same_outcome p.1 q.1

abbrev pub same_rtt : Ip × ℕ → Ip × ℕ → Bool
same_rtt p q = same_ip p.0 q.0 && p.1 == q.1

abbrev pub same_history : History → History → Bool
same_history x y = pointwise same_rtt x.rtts y.rtts && pointwise same_ip x.used y.used

abbrev pub same_pause : ℕ × ℕ → ℕ × ℕ → Bool
same_pause p q = p.0 == q.0 && p.1 == q.1

abbrev pub same_reply : Option Reply → Option Reply → Bool
same_reply None None = true
same_reply (Some x) (Some y) = x.tick == y.tick && pointwise same_ip x.addresses y.addresses
same_reply _ _ = false

abbrev pub same_floor : Option ℕ → Option ℕ → Bool
same_floor None None = true
same_floor (Some m) (Some n) = m == n
same_floor _ _ = false

abbrev pub same_settings : SettingValues → SettingValues → Bool
same_settings x y =
    x.resolution == y.resolution && x.attempt == y.attempt && x.count == y.count && x.limit == y.limit
    && same_floor x.floor y.floor

-- settings, policy, host, answers, history, outcomes and pauses are equal, as lists
abbrev pub same_race : Race → Race → Bool
same_race x y =
    same_settings x.settings y.settings && equal_tables x.policy y.policy && equal_hosts x.host y.host
    && same_reply x.aaaa y.aaaa && same_reply x.a y.a && same_history x.history y.history
    && pointwise same_told x.outcomes y.outcomes && pointwise same_pause x.pauses y.pauses
