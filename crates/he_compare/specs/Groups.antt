-- Races in groups, and the report on each group.
use Rattle.std.specs.Prelude.{ℕ, ◌≡◌, ◌==◌, ◌++◌, ◌<◌, if◌then◌else◌, All, List, [], ◌∷◌, codes, filter, length, map, string_bytes}
use Rattle.std.specs.List.{Contains, sum_by}
use Rattle.std.specs.Option.{unwrap_or}
use Rattle.he_addr.specs.declared.ip.Family.TheVariants.{V4, V6}
use Rattle.he_print.specs.Escaping.{string_text}
use Rattle.he_print.specs.Parts.{States}
use Rattle.he_print.specs.declared.part.Fact.{Fact}
use Rattle.he_print.specs.declared.part.Fact.TheVariants as facts
use Rattle.he_summary.specs.Json.{totals_json}
use Rattle.he_totals.specs.Totals.{AreTotals, is_kind}
use Rattle.he_summary.specs.Written.{HasWords, name_at}
use Rattle.he_summary.specs.declared.figures.Form.{Form}
use Rattle.he_summary.specs.declared.figures.Form.TheVariants as forms
use Rattle.he_totals.specs.declared.kept.Kept.{Kept}
use Rattle.he_totals.specs.declared.totals.Kind.TheVariants.{WonBy}
use Rattle.he_totals.specs.declared.totals.Totals.{Totals}
use Rattle.he_compare.specs.Hours.{hour_of, hour_text}
use Rattle.he_compare.specs.Rows.{mean_facts, share_cell, times_facts}
use Rattle.he_compare.specs.declared.grouping.By.{By}
use Rattle.he_compare.specs.declared.grouping.By.TheVariants as by
use Rattle.he_compare.specs.declared.grouping.Grouping.{Grouping}
use Rattle.he_compare.specs.declared.grouping.TheConstants.{NO_FAMILY, NO_HOUR}
use Rattle.he_compare.specs.declared.groups.Group.{Group}
use Rattle.he_compare.specs.declared.row.Said.{Said}

-- the hour of a name, or the number after all hours if it has none
abbrev pub hour_key : List ℕ → ℕ
hour_key name = unwrap_or (hour_of name) NO_HOUR

-- IPv6, then IPv4, then the races that neither won
abbrev pub family_key : Kept → ℕ
family_key race = if is_kind (WonBy V6) race then 0 else if is_kind (WonBy V4) race then 1 else NO_FAMILY

abbrev pub key_by : By → List (List ℕ) → Kept → ℕ
key_by by.File names race = race.place.file
key_by by.Hour names race = hour_key (name_at names race.place.file)
key_by by.Family names race = family_key race
key_by by.Host names race = race.place.file

-- the criterion that divides races, and the names of their files
pub record Division : Type 0 where
  pub by : By
  pub names : List (List ℕ)

abbrev pub division_of : Grouping → Division
division_of grouping = record { by = grouping.by; names = map string_bytes grouping.names.now }

-- the number of a race's group: groups are in the order of their numbers
abbrev pub key_of : Division → Kept → ℕ
key_of division race = key_by division.by division.names race

abbrev pub family_text : ℕ → List ℕ
family_text key = if key == 0 then codes "IPv6" else if key == 1 then codes "IPv4" else codes "none"

abbrev pub label_by : By → List (List ℕ) → ℕ → List ℕ
label_by by.File names key = name_at names key
label_by by.Hour names key = if key == NO_HOUR then codes "other" else hour_text key
label_by by.Family names key = family_text key
label_by by.Host names key = name_at names key

-- the label of a group
abbrev pub label_of : Division → ℕ → List ℕ
label_of division key = label_by division.by division.names key

-- the races of a group
abbrev pub members : Division → ℕ → List Kept → List Kept
members division key kept = filter (λ race. key_of division race == key) kept

-- in ascending order, each once
abbrev pub Ascend : List Group → Type 0
Ascend [] = Unit {0}
Ascend (group ∷ groups) = All (λ other. group.key < other.key) groups × Ascend groups

-- there is a race of the group, and the totals are counted over all of them
abbrev pub IsCounted : Division → List Kept → Group → Type 0
IsCounted division kept group =
    (0 < length (members division group.key kept)) × AreTotals (members division group.key kept) group.totals

-- these are the groups of these races: each race is in one of them
pub record AreGroups (division : Division) (kept : List Kept) (groups : List Group) : Type 0 where
  pub ascend : Ascend groups
  pub counted : All (IsCounted division kept) groups
  pub each : All (λ race. Contains (map (λ group. group.key) groups) (key_of division race)) kept

-- the share of the won races that IPv6 won, and the time of all races that waited for the names, and that was lost
abbrev pub share_facts : Totals → List (Fact Said)
share_facts totals =
    share_cell totals.counts.by_v6 totals.counts.won
    ++ facts.Number totals.sums.names ∷ facts.Number totals.sums.lost ∷ []

-- the number of races, the share of them that was won, their times to connect, their attempts in the mean, and these
abbrev pub cell_facts : Totals → List (Fact Said)
cell_facts totals =
    facts.Number totals.counts.races
    ∷ (share_cell totals.counts.won totals.counts.races
    ++ (times_facts totals.times
    ++ (mean_facts totals.attempts ++ share_facts totals)))

-- a line of the table, which its label ends; or an object, which has all figures of a summary of the races
abbrev pub IsGroupText : Form → Totals → List ℕ → List ℕ → Type 0
IsGroupText forms.Text totals label text =
    (cells : List ℕ) × States (cell_facts totals) cells × (text ≡ cells ++ (codes "  " ++ (label ++ codes "\n")))
IsGroupText _ totals label text =
    text ≡ totals_json totals ++ (codes ",\"group\":" ++ (string_text label ++ codes "}\n"))

-- the text of each of these groups has been appended
abbrev pub AreGroupTexts : Form → Division → List Group → List ℕ → List ℕ → Type 0
AreGroupTexts form division [] old new = new ≡ old
AreGroupTexts form division (group ∷ groups) old new =
    (text : List ℕ) × IsGroupText form group.totals (label_of division group.key) text
    × AreGroupTexts form division groups (old ++ text) new

-- a table of the groups of these races, after a heading or without one
abbrev pub IsGroupTable : Form → Division → List Kept → List ℕ → List ℕ → Type 0
IsGroupTable form division kept old new =
    (groups : List Group) × (between : List ℕ) × AreGroups division kept groups × HasWords old between
    × AreGroupTexts form division groups between new

-- whatever is summed over races, as the time that they lost: over the races of each group, and these over all groups
abbrev pub GroupsAddUp : Type 0
GroupsAddUp =
    (division : Division) (kept : List Kept) (groups : List Group) → AreGroups division kept groups
    → (ms : Kept → ℕ)
    → sum_by (λ (group : Group). sum_by ms (members division group.key kept)) groups ≡ sum_by ms kept
