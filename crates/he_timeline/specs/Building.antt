-- The results of the builder's calls: the race with the addition, or the first fault.
use Rattle.std.specs.Prelude.{ℕ, ◌≡◌, ◌-◌, ◌&&◌, ◌++◌, true, false, not, if◌then◌else◌, List, [], ◌∷◌, length, Some, None, is_some, slice_get, nat_le, nat_lt, Result, Ok, Err, IsOk}
use Rattle.std.specs.Option.{option_map_or}
use Rattle.he_addr.specs.declared.ip.Family.{Family}
use Rattle.he_addr.specs.declared.ip.Family.TheVariants as families
use Rattle.he_addr.specs.declared.ip.Ip.{Ip}
use Rattle.he_timeline.specs.declared.builder.BuildFault.{BuildFault}
use Rattle.he_timeline.specs.declared.builder.BuildFault.TheVariants as faults
use Rattle.he_timeline.specs.declared.outcome.Outcome.{Outcome}
use Rattle.he_timeline.specs.declared.limits.TheConstants.{MAX_TICK, MAX_ADDRESSES, MAX_PAUSES, MAX_PAUSE_END}
use Rattle.he_timeline.specs.Settings.{SettingValues}
use Rattle.he_select.specs.declared.policy.Row.{Row}
use Rattle.he_select.specs.Hosts.{HostLists}
use Rattle.he_timeline.specs.Race.{History, Race, Reply, reply_of, has_ip, has_outcome, is_in_answer, is_told}
use Rattle.he_timeline.specs.Timeline.{are_of, are_distinct, is_duration, duration_of}

abbrev pub empty_history : History
empty_history = record { rtts = []; used = [] }

-- a race with these settings, policy and host, in which nothing happens
abbrev pub empty_race : SettingValues → List Row → HostLists → Race
empty_race settings policy host =
    record {
      settings = settings;
      policy = policy;
      host = host;
      aaaa = None;
      a = None;
      history = empty_history;
      outcomes = [];
      pauses = [];
    }

-- the race without its outcomes and pauses
abbrev pub unrecorded : Race → Race
unrecorded race = record race { outcomes = []; pauses = [] }

-- the race on this host
abbrev pub with_host : Race → HostLists → Race
with_host race host = record race { host = host }

abbrev pub with_answer : Race → Family → Reply → Race
with_answer race families.V6 reply = record race { aaaa = Some reply }
with_answer race families.V4 reply = record race { a = Some reply }

abbrev pub add_answer : Family → ℕ → List Ip → Race → Result Race BuildFault
add_answer family tick addresses race =
    if is_some (reply_of race family) then Err faults.Answered
    else if nat_lt MAX_TICK tick then Err faults.Range
    else if nat_lt MAX_ADDRESSES (length addresses) then Err faults.TooMany
    else if not (are_of family addresses) then Err faults.Stranger
    else if not (are_distinct addresses) then Err faults.Repeated
    else Ok (with_answer race family (record { tick = tick; addresses = addresses }))

abbrev pub with_rtt : Race → Ip → ℕ → Race
with_rtt race ip rtt =
    record race { history = record { rtts = race.history.rtts ++ (ip, rtt) ∷ []; used = race.history.used } }

abbrev pub add_rtt : Ip → ℕ → Race → Result Race BuildFault
add_rtt ip rtt race =
    if not (is_duration rtt) then Err faults.Range
    else if not (is_in_answer race ip) then Err faults.Stranger
    else if is_told ip race.history.rtts then Err faults.Repeated
    else Ok (with_rtt race ip rtt)

abbrev pub with_used : Race → Ip → Race
with_used race ip =
    record race { history = record { rtts = race.history.rtts; used = race.history.used ++ ip ∷ [] } }

abbrev pub add_used : Ip → Race → Result Race BuildFault
add_used ip race =
    if not (is_in_answer race ip) then Err faults.Stranger
    else if has_ip ip race.history.used then Err faults.Repeated
    else Ok (with_used race ip)

abbrev pub with_outcome : Race → Ip → Outcome → Race
with_outcome race ip outcome = record race { outcomes = race.outcomes ++ (ip, outcome) ∷ [] }

abbrev pub add_outcome : Ip → Outcome → Race → Result Race BuildFault
add_outcome ip outcome race =
    if not (is_duration (duration_of outcome)) then Err faults.Range
    else if not (is_in_answer race ip) then Err faults.Stranger
    else if has_outcome ip race.outcomes then Err faults.Repeated
    else Ok (with_outcome race ip outcome)

-- the first tick after the last pause
abbrev pub last_end : List (ℕ × ℕ) → ℕ
last_end pauses = option_map_or (λ p. p.1) (slice_get pauses (length pauses - 1)) 0

abbrev pub with_pause : Race → ℕ → ℕ → Race
with_pause race from to = record race { pauses = race.pauses ++ (from, to) ∷ [] }

abbrev pub add_pause : ℕ → ℕ → Race → Result Race BuildFault
add_pause from to race =
    if not (nat_le (last_end race.pauses) from && nat_lt from to && nat_le to MAX_PAUSE_END) then Err faults.Range
    else if nat_le MAX_PAUSES (length race.pauses) then Err faults.TooMany
    else Ok (with_pause race from to)

-- a call makes the race `made`, or returns its fault and changes nothing; Memory is returned only if there is no
-- other fault, and changes nothing
abbrev pub Becomes : Result (Unit {0}) BuildFault → Race → Race → Result Race BuildFault → Type 0
Becomes (Ok done) old new made = made ≡ Ok new
Becomes (Err faults.Memory) old new made = (new ≡ old) × IsOk made
Becomes (Err fault) old new made = (new ≡ old) × (made ≡ Err fault)

-- why addresses are no answer: one appears twice, otherwise an allocation failed
abbrev pub IsRefused : List Ip → BuildFault → Type 0
IsRefused addresses faults.Repeated = are_distinct addresses ≡ false
IsRefused addresses faults.Memory = are_distinct addresses ≡ true
IsRefused addresses _ = ⊥
