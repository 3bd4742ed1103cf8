-- The contents of a race's lines, and the race that they make.
use Rattle.std.specs.Prelude.{ℕ, Bool, List, [], ◌∷◌, Option, Some, None, if◌then◌else◌, unwrap_or}
use Rattle.std.specs.List.{filter_map}
use Rattle.std.specs.Str.{bytes_eq}
use Rattle.he_addr.specs.declared.ip.Family.{Family}
use Rattle.he_addr.specs.declared.ip.Family.TheVariants as families
use Rattle.he_addr.specs.declared.ip.Ip.{Ip}
use Rattle.he_timeline.specs.declared.outcome.Outcome.{Outcome}
use Rattle.he_timeline.specs.Settings.{SettingValues}
use Rattle.he_timeline.specs.Race.{History, Race, Reply}
use Rattle.he_timeline.specs.declared.limits.TheConstants.{DEFAULT_RESOLUTION, DEFAULT_ATTEMPT, DEFAULT_COUNT, DEFAULT_LIMIT}
use Rattle.he_words.specs.declared.words.Name.{Name}
use Rattle.he_words.specs.declared.words.Name.TheVariants.{Resolution, Attempt, Count, Limit, Floor}
use Rattle.he_words.specs.declared.words.Word.{Word}
use Rattle.he_words.specs.declared.words.Word.TheVariants as words
use Rattle.he_words.specs.Words.{name_spelling}
use Rattle.he_select.specs.declared.policy.Row.{Row}
use Rattle.he_select.specs.declared.host.Source.{Source}
use Rattle.he_select.specs.declared.host.Route.{Route}
use Rattle.he_select.specs.Hosts.{HostLists}
use Rattle.he_select.specs.Standard.{standard_rows}

-- the content of a line: a setting, a row of the policy table, a source or a route of the host, an answer, a round
-- trip time, an address that was used before, an outcome, a pause, or the end of the race
pub data Said : Type 0 where
  Setting : Name → ℕ → Said
  PolicyRow : Row → Said
  HostSource : Source → Said
  HostRoute : Route → Said
  Answer : Family → Reply → Said
  RoundTrip : Ip → ℕ → Said
  UsedBefore : Ip → Said
  OutcomeOf : Ip → Outcome → Said
  Paused : ℕ → ℕ → Said
  Ended : Said

-- the word of the lines with this content
abbrev pub word_said : Said → Word
word_said (Setting name value) = words.Set
word_said (PolicyRow row) = words.Policy
word_said (HostSource source) = words.Source
word_said (HostRoute route) = words.Route
word_said (Answer families.V6 reply) = words.Aaaa
word_said (Answer families.V4 reply) = words.A
word_said (RoundTrip ip rtt) = words.Rtt
word_said (UsedBefore ip) = words.Used
word_said (OutcomeOf ip outcome) = words.Connect
word_said (Paused from to) = words.Pause
word_said Ended = words.End

abbrev pub same_name : Name → Name → Bool
same_name name other = bytes_eq (name_spelling name) (name_spelling other)

abbrev pub setting_said : Name → Said → Option ℕ
setting_said name (Setting other value) = if same_name name other then Some value else None
setting_said name _ = None

abbrev pub row_said : Said → Option Row
row_said (PolicyRow row) = Some row
row_said _ = None

abbrev pub source_said : Said → Option Source
source_said (HostSource source) = Some source
source_said _ = None

abbrev pub route_said : Said → Option Route
route_said (HostRoute route) = Some route
route_said _ = None

abbrev pub answer_said : Family → Said → Option Reply
answer_said families.V6 (Answer families.V6 reply) = Some reply
answer_said families.V4 (Answer families.V4 reply) = Some reply
answer_said family _ = None

abbrev pub rtt_said : Said → Option (Ip × ℕ)
rtt_said (RoundTrip ip rtt) = Some (ip, rtt)
rtt_said _ = None

abbrev pub used_said : Said → Option Ip
used_said (UsedBefore ip) = Some ip
used_said _ = None

abbrev pub outcome_said : Said → Option (Ip × Outcome)
outcome_said (OutcomeOf ip outcome) = Some (ip, outcome)
outcome_said _ = None

abbrev pub pause_said : Said → Option (ℕ × ℕ)
pause_said (Paused from to) = Some (from, to)
pause_said _ = None

abbrev pub at_front : {A : Type 0} → List A → Option A
at_front [] = None
at_front (x ∷ xs) = Some x

-- the values in the lines: that of a setting, a family's answer, and rows, sources, routes, round trip times,
-- addresses used before, outcomes and pauses in their order
abbrev pub setting_given : Name → List Said → Option ℕ
setting_given name said = at_front (filter_map (setting_said name) said)

abbrev pub rows_given : List Said → List Row
rows_given said = filter_map row_said said

abbrev pub sources_given : List Said → List Source
sources_given said = filter_map source_said said

abbrev pub routes_given : List Said → List Route
routes_given said = filter_map route_said said

abbrev pub answer_given : Family → List Said → Option Reply
answer_given family said = at_front (filter_map (answer_said family) said)

abbrev pub rtts_given : List Said → List (Ip × ℕ)
rtts_given said = filter_map rtt_said said

abbrev pub used_given : List Said → List Ip
used_given said = filter_map used_said said

abbrev pub outcomes_given : List Said → List (Ip × Outcome)
outcomes_given said = filter_map outcome_said said

abbrev pub pauses_given : List Said → List (ℕ × ℕ)
pauses_given said = filter_map pause_said said

-- a setting that isn't given has its default; without a floor there is none
abbrev pub settings_given : List Said → SettingValues
settings_given said = record {
  resolution = unwrap_or (setting_given Resolution said) DEFAULT_RESOLUTION;
  attempt = unwrap_or (setting_given Attempt said) DEFAULT_ATTEMPT;
  count = unwrap_or (setting_given Count said) DEFAULT_COUNT;
  limit = unwrap_or (setting_given Limit said) DEFAULT_LIMIT;
  floor = setting_given Floor said;
}

-- the given rows are the whole table; if none is given, it is the standard table
abbrev pub table_of_rows : List Row → List Row
table_of_rows [] = standard_rows
table_of_rows (row ∷ rows) = row ∷ rows

abbrev pub host_given : List Said → HostLists
host_given said = record { sources = sources_given said; routes = routes_given said }

abbrev pub history_given : List Said → History
history_given said = record { rtts = rtts_given said; used = used_given said }

unfoldable pub race_of : List Said → Race
race_of said = record {
  settings = settings_given said;
  policy = table_of_rows (rows_given said);
  host = host_given said;
  aaaa = answer_given families.V6 said;
  a = answer_given families.V4 said;
  history = history_given said;
  outcomes = outcomes_given said;
  pauses = pauses_given said;
}
