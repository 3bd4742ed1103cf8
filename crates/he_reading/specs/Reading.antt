-- Mirrors the code: the results of the private readers, as functions on lists. `Text` defines the lines of a race,
-- `Faults` their faults.
use Rattle.std.specs.Prelude.{ℕ, ◌≡◌, ◌⊎◌, ◌≤◌, ◌+◌, ◌++◌, ◌==◌, Bool, List, [], ◌∷◌, length, Option, Some, None, option_map, Result, Ok, Err, if◌then◌else◌, nat_le, nat_lt, unwrap_or, IfErr}
use Rattle.std.specs.List.{list_any}
use Rattle.std.specs.Option.{option_map_or}
use Rattle.he_addr.specs.declared.ip.Ip.{Ip}
use Rattle.he_addr.specs.declared.ip.Family.{Family}
use Rattle.he_addr.specs.declared.ip.Family.TheVariants as families
use Rattle.he_timeline.specs.declared.builder.BuildFault.{BuildFault}
use Rattle.he_timeline.specs.declared.limits.TheConstants.{DEFAULT_RESOLUTION, DEFAULT_ATTEMPT, DEFAULT_COUNT, DEFAULT_LIMIT}
use Rattle.he_timeline.specs.Building.{add_answer, add_rtt, add_used, add_outcome, add_pause, empty_race}
use Rattle.he_timeline.specs.Race.{Race, Reply, is_in_answer}
use Rattle.he_timeline.specs.Settings.{SettingValues, settings_of, with_floor}
use Rattle.he_select.specs.declared.policy.Row.{Row}
use Rattle.he_select.specs.declared.host.Source.{Source}
use Rattle.he_select.specs.declared.host.Route.{Route}
use Rattle.he_select.specs.HostFaults.{host_of}
use Rattle.he_select.specs.Hosts.{HostLists, same_source, same_route}
use Rattle.he_select.specs.Standard.{standard_rows}
use Rattle.he_select.specs.TableFaults.{table_fault, table_of}
use Rattle.he_select.specs.Tables.{same_row}
use Rattle.he_reading.specs.declared.draft.LastGroup.{LastGroup}
use Rattle.he_reading.specs.declared.draft.GivenSettings.{GivenSettings}
use Rattle.he_words.specs.declared.fault.TextKind.{TextKind}
use Rattle.he_words.specs.declared.fault.TextKind.TheVariants as kinds
use Rattle.he_words.specs.declared.limits.TheConstants.{MAX_LINE}
use Rattle.he_words.specs.declared.words.Name.{Name}
use Rattle.he_words.specs.declared.words.Name.TheVariants.{Resolution, Attempt, Count, Limit, Floor}
use Rattle.he_words.specs.declared.words.Version.{Version}
use Rattle.he_words.specs.declared.words.Word.{Word}
use Rattle.he_words.specs.declared.words.Word.TheVariants as words
use Rattle.he_reading.specs.Faults.{is_above, is_next}
use Rattle.he_reading.specs.Forms.{◌>>=◌, version_word, setting_in, row_in, host_source_in, host_route_in, listed_in, answer_in, round_trip_in, used_in, connect_in, pause_in, end_in}
use Rattle.he_reading.specs.Parts.{lines_of, tokens_of}
use Rattle.he_words.specs.Words.{group_of, most_lines, is_end, header_in, is_head_word}
use Rattle.he_words.specs.Kinds.{kind_of, table_kind, host_kind}

-- a call that failed did so as `read` does, or because an allocation failed
abbrev pub Fails : {B : Type 0} → TextKind → Result B TextKind → Type 0
Fails kind read = (kind ≡ kinds.Memory) ⊎ (read ≡ Err kind)

-- these addresses, followed by those that are read
abbrev pub prepend : List Ip → Result (List Ip) TextKind → Result (List Ip) TextKind
prepend ips read = read >>= λ more. Ok (ips ++ more)

abbrev pub built : Result Race BuildFault → Result Race TextKind
built (Ok race) = Ok race
built (Err fault) = Err (kind_of fault)

-- one more line of a group with `lines` lines, if it has a maximum
unfoldable pub counted : ℕ → Option (ℕ × TextKind) → ℕ → Result LastGroup TextKind
counted group None lines = Ok (record { group = group; lines = 0 })
counted group (Some most) lines =
    if nat_le most.0 lines then Err most.1 else Ok (record { group = group; lines = lines + 1 })

-- a line of the word, after the lines so far
unfoldable pub admit : Word → LastGroup → Result LastGroup TextKind
admit word so_far =
    if nat_lt (group_of word) so_far.group then Err kinds.Word
    else counted (group_of word) (most_lines word) (if group_of word == so_far.group then so_far.lines else 0)

abbrev pub group_at_start : LastGroup
group_at_start = record { group = 0; lines = 0 }

abbrev pub none_given : GivenSettings
none_given = record { resolution = None; attempt = None; count = None; limit = None; floor = None }

-- a value that may be given once
abbrev pub once : Option ℕ → ℕ → Result (Option ℕ) TextKind
once None value = Ok (Some value)
once (Some before) value = Err kinds.Repeated

unfoldable pub put : Name → ℕ → GivenSettings → Result GivenSettings TextKind
put Resolution value given =
    once given.resolution value >>= λ (more : Option ℕ). Ok (record given { resolution = more })
put Attempt value given = once given.attempt value >>= λ (more : Option ℕ). Ok (record given { attempt = more })
put Count value given = once given.count value >>= λ (more : Option ℕ). Ok (record given { count = more })
put Floor value given = once given.floor value >>= λ (more : Option ℕ). Ok (record given { floor = more })
put Limit value given = once given.limit value >>= λ (more : Option ℕ). Ok (record given { limit = more })

abbrev pub ranged : {B R : Type 0} → Result B R → Result B TextKind
ranged (Ok settings) = Ok settings
ranged (Err range) = Err kinds.Range

-- the settings with the floor, if one is given
abbrev pub floored : Option ℕ → SettingValues → Result SettingValues TextKind
floored None settings = Ok settings
floored (Some floor) settings = ranged (with_floor settings floor)

-- the settings, with defaults for those not given
unfoldable pub settings_from : GivenSettings → Result SettingValues TextKind
settings_from given = ranged (settings_of
    (unwrap_or given.resolution DEFAULT_RESOLUTION)
    (unwrap_or given.attempt DEFAULT_ATTEMPT)
    (unwrap_or given.count DEFAULT_COUNT)
    (unwrap_or given.limit DEFAULT_LIMIT)) >>= floored given.floor

-- a floor above the attempt delay
abbrev pub given_is_above : GivenSettings → Bool
given_is_above given = is_above given.floor (unwrap_or given.attempt DEFAULT_ATTEMPT)

-- if no more settings come, the floor must be at most the attempt delay
abbrev pub settled : Bool → GivenSettings → Result GivenSettings TextKind
settled more given = if more then Ok given else if given_is_above given then Err kinds.Range else Ok given

-- the contents of the lines of the first four groups
pub record HeadGiven : Type 0 where
  pub settings : GivenSettings
  pub rows : List Row
  pub sources : List Source
  pub routes : List Route

abbrev pub no_head : HeadGiven
no_head = record { settings = none_given; rows = []; sources = []; routes = [] }

-- one more setting; `more` if further ones come
unfoldable pub add_setting : Bool → Name → ℕ → HeadGiven → Result HeadGiven TextKind
add_setting more name value head =
    (put name value head.settings >>= settled more) >>=
    λ (given : GivenSettings). Ok (record head { settings = given })

abbrev pub with_row : Row → HeadGiven → HeadGiven
with_row row head = record head { rows = head.rows ++ row ∷ [] }

-- one more row; if no more come, the rows must be a table
unfoldable pub add_row : Bool → Row → HeadGiven → Result HeadGiven TextKind
add_row more row head =
    if list_any (same_row row) head.rows then Err kinds.Repeated
    else if more then Ok (with_row row head)
    else option_map_or Err (option_map kinds.Policy (table_fault (head.rows ++ row ∷ []))) (Ok (with_row row head))

unfoldable pub add_source : Source → HeadGiven → Result HeadGiven TextKind
add_source source head =
    if list_any (same_source source) head.sources then Err kinds.Repeated
    else Ok (record head { sources = head.sources ++ source ∷ [] })

unfoldable pub add_route : Route → HeadGiven → Result HeadGiven TextKind
add_route route head =
    if list_any (same_route route) head.routes then Err kinds.Repeated
    else Ok (record head { routes = head.routes ++ route ∷ [] })

-- a line of the first four groups; `more` if one of its word follows it
unfoldable pub take_given : Bool → Word → List (List ℕ) → HeadGiven → Result HeadGiven TextKind
take_given more words.Set tokens head = setting_in tokens >>= λ setting. add_setting more setting.0 setting.1 head
take_given more words.Policy tokens head = row_in tokens >>= λ row. add_row more row head
take_given more words.Source tokens head = host_source_in tokens >>= λ source. add_source source head
take_given more words.Route tokens head = host_route_in tokens >>= λ route. add_route route head
take_given more _ tokens head = Err kinds.Word

abbrev pub told_by : {B F : Type 0} → (F → TextKind) → Result B F → Result B TextKind
told_by kind (Ok x) = Ok x
told_by kind (Err fault) = Err (kind fault)

-- the rows' table; the standard one if there is no row
unfoldable pub policy_from : List Row → Result (List Row) TextKind
policy_from [] = Ok standard_rows
policy_from (row ∷ rows) = told_by table_kind (table_of (row ∷ rows))

unfoldable pub host_from : List Source → List Route → Result HostLists TextKind
host_from sources routes = told_by host_kind (host_of sources routes)

-- the race in which nothing has happened yet
unfoldable pub race_begun : HeadGiven → Result Race TextKind
race_begun head = do
  settings ← settings_from head.settings
  policy ← policy_from head.rows
  host ← host_from head.sources head.routes
  Ok (empty_race settings policy host)

-- addresses, and the tick of their answer
abbrev pub with_tick : ℕ → Result (List Ip) TextKind → Result Reply TextKind
with_tick tick read = read >>= λ ips. Ok (record { tick = tick; addresses = ips })

-- the addresses of an answer at the tick
unfoldable pub take_listed : Family → ℕ → List (List ℕ) → Race → Result Race TextKind
take_listed family tick tokens race = listed_in family tokens >>= λ ips. built (add_answer family tick ips race)

unfoldable pub take_answer : Family → List (List ℕ) → Race → Result Race TextKind
take_answer family tokens race =
    answer_in family tokens >>= λ reply. built (add_answer family reply.tick reply.addresses race)

-- a line of the other groups
unfoldable pub take_told : Word → List (List ℕ) → Race → Result Race TextKind
take_told words.Aaaa tokens race = take_answer families.V6 tokens race
take_told words.A tokens race = take_answer families.V4 tokens race
take_told words.Rtt tokens race =
    round_trip_in (is_in_answer race) tokens >>= λ told. built (add_rtt told.0 told.1 race)
take_told words.Used tokens race = used_in (is_in_answer race) tokens >>= λ ip. built (add_used ip race)
take_told words.Connect tokens race =
    connect_in (is_in_answer race) tokens >>= λ told. built (add_outcome told.0 told.1 race)
take_told words.Pause tokens race = pause_in tokens >>= λ pause. built (add_pause pause.0 pause.1 race)
take_told words.End tokens race = end_in tokens >>= λ _. Ok race
take_told _ tokens race = Err kinds.Word

unfoldable pub take_line : Version → List (List ℕ) → LastGroup → Race → Result (Word × LastGroup × Race) TextKind
take_line version line so_far race = do
  parts ← version_word version line
  next ← admit parts.0 so_far
  told ← take_told parts.0 parts.1 race
  Ok (parts.0, next, told)

-- whether a part is a whole line, by the parts after it
abbrev pub ended_by : List (List ℕ) → Result (Unit {0}) TextKind
ended_by [] = Err kinds.Unfinished
ended_by (_ ∷ _) = Ok tt

unfoldable pub wholeness : List (List ℕ) → Result (Unit {0}) TextKind
wholeness [] = Err kinds.Unfinished
wholeness (line ∷ after) = if nat_lt MAX_LINE (length line) then Err kinds.TooMany else ended_by after

-- a fault of the line with that number
abbrev pub at_line : {B : Type 0} → ℕ → Result B TextKind → Result B (ℕ × TextKind)
at_line n (Ok x) = Ok x
at_line n (Err kind) = Err (n, kind)

-- reads on from line n: the race and the text after it
unfoldable pub read_body : Version → ℕ → LastGroup → Race → List (List ℕ)
    → Result (Race × List (List ℕ)) (ℕ × TextKind)
read_body version n so_far race [] = Err (n, kinds.Unfinished)
read_body version n so_far race (line ∷ after) =
    at_line n (wholeness (line ∷ after)) >>= λ _.
    at_line n (take_line version (tokens_of line) so_far race) >>= λ next.
    if is_end next.0 then Ok (next.2, after) else read_body version (n + 1) next.1 next.2 after

abbrev pub head_part : Result (Word × List (List ℕ)) TextKind → Option (Word × List (List ℕ))
head_part (Ok parts) = if is_head_word parts.0 then Some parts else None
head_part (Err kind) = None

-- the word of a line and the tokens after it, if the word is of the first four groups
unfoldable pub head_of : Version → List (List ℕ) → Option (Word × List (List ℕ))
head_of version line = head_part (version_word version line)

-- adds such a line, if it may appear there, given the lines after it
unfoldable pub take_head : List (List ℕ) → Word × List (List ℕ) → LastGroup → HeadGiven
    → Result (LastGroup × HeadGiven) TextKind
take_head after parts so_far head = do
  next ← admit parts.0 so_far
  more ← take_given (is_next parts.0 after) parts.0 parts.1 head
  Ok (next, more)

-- reads on after the lines of the first four groups
unfoldable pub settle : Version → ℕ → LastGroup → HeadGiven → List (List ℕ)
    → Result (Race × List (List ℕ)) (ℕ × TextKind)
settle version n so_far head lines = at_line n (race_begun head) >>= λ race. read_body version n so_far race lines

-- the lines of the first four groups, and then the others
unfoldable pub read_head : Version → ℕ → LastGroup → HeadGiven → List (List ℕ)
    → Result (Race × List (List ℕ)) (ℕ × TextKind)
read_head version n so_far head [] = Err (n, kinds.Unfinished)
read_head version n so_far head (line ∷ after) =
    at_line n (wholeness (line ∷ after)) >>= λ _.
    elim (head_of version (tokens_of line)) [
      | None ↦ settle version n so_far head (line ∷ after)
      | Some parts ↦ at_line n (take_head after parts so_far head) >>=
          λ next. read_head version (n + 1) next.0 next.1 after
    ]

unfoldable pub read_lines : List (List ℕ) → Result (Race × List (List ℕ)) (ℕ × TextKind)
read_lines [] = Err (1, kinds.Unfinished)
read_lines (line ∷ after) =
    at_line 1 (wholeness (line ∷ after)) >>= λ _.
    at_line 1 (header_in line) >>= λ version. read_head version 2 group_at_start no_head after

-- a text was read: its race, the number of bytes after it, and the number of its lines
pub record ReadsFirst (text : List ℕ) (race : Race) (left lines : ℕ) : Type 0 where
  pub rest : List ℕ
  pub counted : length rest ≡ left
  pub read : read_lines (lines_of text) ≡ Ok (race, lines_of rest)
  pub passed : lines + length (lines_of rest) ≡ length (lines_of text)

-- a failed reading failed at line n as `read` does, or because an allocation failed there, without a fault before
-- this line
abbrev pub FailsAt : {B : Type 0} → ℕ → TextKind → Result B (ℕ × TextKind) → Type 0
FailsAt n kind read = ((kind ≡ kinds.Memory) × IfErr read (λ fault. n ≤ fault.0)) ⊎ (read ≡ Err (n, kind))
