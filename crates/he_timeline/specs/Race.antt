-- The parts of a race: its settings, the policy table and the host that determine the order of its addresses, the two
-- answers, the client's knowledge of addresses from earlier connections, the outcome of each address, and the
-- client's pauses.
use Rattle.std.specs.Prelude.{ℕ, ◌||◌, ◌++◌, Bool, List, [], filter, find, map, Option, Some, None, option_map}
use Rattle.std.specs.List.{list_any}
use Rattle.he_addr.specs.Ip.{is_usable, same_ip}
use Rattle.he_addr.specs.declared.ip.Family.{Family}
use Rattle.he_addr.specs.declared.ip.Family.TheVariants as families
use Rattle.he_addr.specs.declared.ip.Ip.{Ip}
use Rattle.he_timeline.specs.declared.outcome.Outcome.{Outcome}
use Rattle.he_timeline.specs.Settings.{SettingValues}
use Rattle.he_select.specs.declared.policy.Row.{Row}
use Rattle.he_select.specs.Hosts.{HostLists}
use Rattle.he_select.specs.declared.known.Known.{Known}
use Rattle.he_select.specs.Selection.{SelectionInput, known_input}

-- one family's answer: the tick at which it comes, and the addresses in its order
pub record Reply : Type 0 where
  pub tick : ℕ
  pub addresses : List Ip

-- the client's knowledge of addresses from earlier connections (RFC 8305 section 4): the last round trip times in
-- milliseconds, and the addresses used before
pub record History : Type 0 where
  pub rtts : List (Ip × ℕ)
  pub used : List Ip

-- a pause (f, t) covers the ticks from f to t - 1; an address without an outcome is silent
pub record Race : Type 0 where
  pub settings : SettingValues
  pub policy : List Row
  pub host : HostLists
  pub aaaa : Option Reply
  pub a : Option Reply
  pub history : History
  pub outcomes : List (Ip × Outcome)
  pub pauses : List (ℕ × ℕ)

abbrev pub reply_of : Race → Family → Option Reply
reply_of race families.V6 = race.aaaa
reply_of race families.V4 = race.a

abbrev pub addresses_of : Option Reply → List Ip
addresses_of None = []
addresses_of (Some reply) = reply.addresses

-- the usable addresses of both answers, at whichever ticks these come
abbrev pub usable_addresses : Race → List Ip
usable_addresses race = filter is_usable (addresses_of race.aaaa) ++ filter is_usable (addresses_of race.a)

abbrev pub has_ip : Ip → List Ip → Bool
has_ip ip ips = list_any (λ other. same_ip other ip) ips

-- the address is in one of the answers, usable or not
abbrev pub is_in_answer : Race → Ip → Bool
is_in_answer race ip = has_ip ip (addresses_of race.aaaa) || has_ip ip (addresses_of race.a)

-- the list has an entry for the address
abbrev pub is_told : {V : Type 0} → Ip → List (Ip × V) → Bool
is_told ip told = list_any (λ p. same_ip p.0 ip) told

-- the address has an outcome
abbrev pub has_outcome : Ip → List (Ip × Outcome) → Bool
has_outcome ip told = list_any (λ p. same_ip p.0 ip) told

-- the first value for the address, if there is one
abbrev pub told_of : {V : Type 0} → List (Ip × V) → Ip → Option V
told_of told ip = option_map (λ p. p.1) (find (λ p. same_ip p.0 ip) told)

-- the known round trip time of the address, in milliseconds
abbrev pub rtt_in : List (Ip × ℕ) → Ip → Option ℕ
rtt_in rtts ip = told_of rtts ip

abbrev pub known_of : History → Ip → Known
known_of history ip = record { ip = ip; rtt = rtt_in history.rtts ip; used = has_ip ip history.used }

-- the input on which the order of its addresses depends
abbrev pub race_input : Race → SelectionInput
race_input race = known_input race.policy race.host (map (known_of race.history) (usable_addresses race))

-- the outcome of the address; None if it is silent
abbrev pub outcome_in : List (Ip × Outcome) → Ip → Option Outcome
outcome_in told ip = option_map (λ p. p.1) (find (λ p. same_ip p.0 ip) told)

abbrev pub outcome_of : Race → Ip → Option Outcome
outcome_of race ip = outcome_in race.outcomes ip
