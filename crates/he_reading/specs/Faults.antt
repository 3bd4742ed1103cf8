-- The faults of a text. A line undergoes the checks in the order of this file. Each is a condition on the line and on
-- the lines before it (which are correct, since the first faulty line decides); the second check and those of a
-- group's last line also depend on the text after it, and the fourth on the version.
use Rattle.std.specs.Prelude.{ℕ, ◌==◌, ◌&&◌, ◌||◌, Bool, true, false, not, List, [], ◌∷◌, ◌++◌, length, Option, Some, None, option_map, is_some, Result, Ok, Err, if◌then◌else◌, nat_le, nat_lt, count_by}
use Rattle.std.specs.List.{filter_map, list_any}
use Rattle.std.specs.Result.{result_ok, result_err}
use Rattle.std.specs.Str.{bytes_eq}
use Rattle.he_addr.specs.declared.ip.Ip.{Ip}
use Rattle.he_timeline.specs.Building.{last_end}
use Rattle.he_timeline.specs.Race.{has_ip, is_in_answer, is_told, has_outcome}
use Rattle.he_timeline.specs.Settings.{SettingValues}
use Rattle.he_timeline.specs.Timeline.{are_distinct}
use Rattle.he_words.specs.Ranges.{most_line_bytes}
use Rattle.he_words.specs.declared.fault.TextKind.{TextKind}
use Rattle.he_words.specs.declared.fault.TextKind.TheVariants as kinds
use Rattle.he_select.specs.Hosts.{same_source, same_route}
use Rattle.he_select.specs.TableFaults.{table_fault}
use Rattle.he_select.specs.Tables.{same_row}
use Rattle.he_words.specs.declared.words.Version.{Version}
use Rattle.he_words.specs.declared.words.Version.TheVariants.{One, Two}
use Rattle.he_words.specs.declared.words.Word.{Word}
use Rattle.he_reading.specs.Forms.{word_of, version_word, said_from, said_in}
use Rattle.he_reading.specs.Parts.{tokens_of}
use Rattle.he_reading.specs.Said.{Said, Setting, PolicyRow, HostSource, HostRoute, Answer, RoundTrip, UsedBefore, OutcomeOf, Paused, setting_given, rows_given, sources_given, routes_given, rtts_given, used_given, outcomes_given, pauses_given, settings_given, race_of, word_said}
use Rattle.he_words.specs.Words.{group_of, header_of, most_lines, same_word, is_end}

-- the fault of a check
abbrev pub test : Bool → TextKind → Option TextKind
test fails kind = if fails then Some kind else None

-- the first check that fails
abbrev pub first_fault : List (Option TextKind) → Option TextKind
first_fault [] = None
first_fault (None ∷ checks) = first_fault checks
first_fault (Some kind ∷ checks) = Some kind

-- the group of a line by its word; 0 if that is no word
abbrev pub group_by : Result (Word × List (List ℕ)) TextKind → ℕ
group_by (Ok parts) = group_of parts.0
group_by (Err kind) = 0

unfoldable pub group_on : List ℕ → ℕ
group_on line = group_by (word_of (tokens_of line))

-- the group of the last line; the first line of a race is of group 0
abbrev pub last_group : ℕ → List (List ℕ) → ℕ
last_group group [] = group
last_group group (line ∷ lines) = last_group (group_on line) lines

-- the number of lines of the group
abbrev pub lines_with : ℕ → List (List ℕ) → ℕ
lines_with group lines = count_by (λ line. group_on line == group) lines

-- the contents of the lines
abbrev pub anyone : Ip → Bool
anyone ip = true

unfoldable pub said_before : List (List ℕ) → List Said
said_before lines = filter_map (λ line. result_ok (said_in anyone line)) lines

-- an address in an answer of the lines
abbrev pub known_to : List Said → Ip → Bool
known_to said ip = is_in_answer (race_of said) ip

-- 1: more bytes than the maximum of a line
abbrev pub too_long : List ℕ → Option TextKind
too_long line = test (nat_lt most_line_bytes (length line)) kinds.TooMany

-- 2: the text ends inside the line; `parts` come after it
abbrev pub unfinished : List (List ℕ) → Option TextKind
unfinished [] = Some kinds.Unfinished
unfinished (part ∷ parts) = None

-- 3: the first line of a race, which has the version
abbrev pub wrong_header : List ℕ → Option TextKind
wrong_header line = test (not (bytes_eq line (header_of One) || bytes_eq line (header_of Two))) kinds.Header

abbrev pub version_on : List ℕ → Version
version_on line = if bytes_eq line (header_of Two) then Two else One

-- 4: no word of the version, or one of an earlier group than the line before
abbrev pub wrong_word : ℕ → Result (Word × List (List ℕ)) TextKind → Option TextKind
wrong_word group (Err kind) = Some kinds.Word
wrong_word group (Ok parts) = test (nat_lt (group_of parts.0) group) kinds.Word

-- 5: one line too many of its word
abbrev pub excess : Option (ℕ × TextKind) → ℕ → Option TextKind
excess None lines = None
excess (Some most) lines = test (nat_le most.0 lines) most.1

abbrev pub too_often : List (List ℕ) → Result (Word × List (List ℕ)) TextKind → Option TextKind
too_often before (Err kind) = None
too_often before (Ok parts) = excess (most_lines parts.0) (lines_with (group_of parts.0) before)

-- 8: a pause that doesn't end after its start, or begins before the end of the one before it
abbrev pub wrong_bounds : List Said → Said → Option TextKind
wrong_bounds before (Paused from to) =
    test (not (nat_le (last_end (pauses_given before)) from && nat_lt from to)) kinds.Range
wrong_bounds before said = None

-- 9: a setting, the prefix of a row, the address of a source or the prefix of a route given twice, an address twice
-- in an answer, a second round trip time, use or outcome of an address
abbrev pub repeated : List Said → Said → Option TextKind
repeated before (Setting name value) = test (is_some (setting_given name before)) kinds.Repeated
repeated before (PolicyRow row) = test (list_any (same_row row) (rows_given before)) kinds.Repeated
repeated before (HostSource source) = test (list_any (same_source source) (sources_given before)) kinds.Repeated
repeated before (HostRoute route) = test (list_any (same_route route) (routes_given before)) kinds.Repeated
repeated before (Answer family reply) = test (not (are_distinct reply.addresses)) kinds.Repeated
repeated before (RoundTrip ip rtt) = test (is_told ip (rtts_given before)) kinds.Repeated
repeated before (UsedBefore ip) = test (has_ip ip (used_given before)) kinds.Repeated
repeated before (OutcomeOf ip outcome) = test (has_outcome ip (outcomes_given before)) kinds.Repeated
repeated before said = None

-- whether the next line begins with the word, correct or not; a line that is too long or has no line end doesn't
-- count
abbrev pub begins_with : Word → Result (Word × List (List ℕ)) TextKind → Bool
begins_with word (Ok parts) = same_word word parts.0
begins_with word (Err kind) = false

abbrev pub is_next : Word → List (List ℕ) → Bool
is_next word (line ∷ next ∷ after) =
    nat_le (length line) most_line_bytes && begins_with word (word_of (tokens_of line))
is_next word _ = false

-- a floor above the attempt delay
abbrev pub is_above : Option ℕ → ℕ → Bool
is_above None delay = false
is_above (Some floor) delay = nat_lt delay floor

abbrev pub floor_is_above : SettingValues → Bool
floor_is_above settings = is_above settings.floor settings.attempt

-- a fault of a group's lines together: a policy table that isn't admitted; a floor above the attempt delay
abbrev pub group_fault : List Said → Said → Option TextKind
group_fault before (PolicyRow row) = option_map kinds.Policy (table_fault (rows_given before ++ row ∷ []))
group_fault before (Setting name value) =
    test (floor_is_above (settings_given (before ++ Setting name value ∷ []))) kinds.Range
group_fault before said = None

-- 10 and 11: checked on the last line of a group, which the next line's word shows
abbrev pub wrong_group : List Said → List (List ℕ) → Said → Option TextKind
wrong_group before after said = if is_next (word_said said) after then None else group_fault before said

-- a check of the line's content, if it has one
abbrev pub of_said : (Said → Option TextKind) → Result Said TextKind → Option TextKind
of_said check (Ok said) = check said
of_said check (Err kind) = None

-- the fault of a line after the first one. The sixth and the seventh check are those of the line by itself (`Forms`):
-- the number of tokens, then each token from left to right
unfoldable pub line_fault : Version → List (List ℕ) → List ℕ → List (List ℕ) → Option TextKind
line_fault version before line after =
    let word = version_word version (tokens_of line) in
    let told = said_before before in
    let said = said_from (known_to told) word in
    first_fault (
    too_long line
    ∷ unfinished after
    ∷ wrong_word (last_group 0 before) word
    ∷ too_often before word
    ∷ result_err said
    ∷ of_said (wrong_bounds told) said
    ∷ of_said (repeated told) said
    ∷ of_said (wrong_group told after) said
    ∷ [])

-- whether a line ends the race
abbrev pub ends_by : Result (Word × List (List ℕ)) TextKind → Bool
ends_by (Ok parts) = is_end parts.0
ends_by (Err kind) = false

unfoldable pub ends : List ℕ → Bool
ends line = ends_by (word_of (tokens_of line))

-- the fault of the first line
abbrev pub header_fault : List ℕ → List (List ℕ) → Option TextKind
header_fault line after = first_fault (too_long line ∷ unfinished after ∷ wrong_header line ∷ [])
