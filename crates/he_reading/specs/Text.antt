-- The texts of races: their lines, the contents of these, and the race that they make.
use Rattle.std.specs.Prelude.{false, ℕ, ◌≡◌, ◌⊎◌, ◌<◌, ◌≤◌, ◌&&◌, Bool, true, IsTrue, List, [], ◌∷◌, ◌++◌, length, Option, Some, nat_le, codes, MatchOption}
use Rattle.std.specs.List.{AllByRecursion, AllZip, filter_map, list_all}
use Rattle.he_addr.specs.declared.ip.Family.{Family}
use Rattle.he_addr.specs.declared.ip.Family.TheVariants as families
use Rattle.he_addr.specs.declared.ip.Ip.{Ip}
use Rattle.he_addr.specs.Ip.{is_usable}
use Rattle.he_addr.specs.Text.{SpellsNumber, Spells, SpellsSource, SpellsPrefix}
use Rattle.he_select.specs.declared.host.Source.{Source}
use Rattle.he_select.specs.declared.host.Route.{Route}
use Rattle.he_timeline.specs.Race.{Race}
use Rattle.he_timeline.specs.Timeline.{IsRace, are_of, duration_of}
use Rattle.he_select.specs.Ranges.{least_interface}
use Rattle.he_timeline.specs.declared.limits.TheConstants.{MAX_ADDRESSES, MAX_TICK, MIN_DURATION, MAX_DURATION, MAX_PAUSE_END}
use Rattle.he_words.specs.Ranges.{most_line_bytes, most_u16, least_pause_end}
use Rattle.he_words.specs.declared.fault.TextKind.{TextKind}
use Rattle.he_words.specs.declared.fault.TextKind.TheVariants as kinds
use Rattle.he_words.specs.declared.words.Name.{Name}
use Rattle.he_words.specs.declared.words.Name.TheVariants.{Floor}
use Rattle.he_words.specs.declared.words.Version.{Version}
use Rattle.he_words.specs.declared.words.Version.TheVariants.{One}
use Rattle.he_words.specs.declared.words.Word.{Word}
use Rattle.he_words.specs.declared.words.Word.TheVariants as words
use Rattle.he_words.specs.Words.{least_value, most_value, group_of, header_of, spelling_of, name_spelling}
use Rattle.he_reading.specs.Parts.{lines_of, tokens_of}
use Rattle.he_reading.specs.Said.{Said, Setting, PolicyRow, HostSource, HostRoute, Answer, RoundTrip, UsedBefore, OutcomeOf, Paused, Ended, setting_said, answer_said, race_of, word_said}
use Rattle.he_words.specs.Marks.{mark_text, source_marks, route_marks}

-- a token that spells a number from `low` to `high`
pub record IsNumber (low high : ℕ) (token : List ℕ) (n : ℕ) : Type 0 where
  pub value : SpellsNumber token n
  pub least : low ≤ n
  pub most : n ≤ high

-- `none`, or tokens that spell the addresses
abbrev pub Lists : List (List ℕ) → List Ip → Type 0
Lists tokens ips = ((tokens ≡ codes "none" ∷ []) × (ips ≡ [])) ⊎ ((0 < length tokens) × AllZip Spells tokens ips)

abbrev pub answer_word : Family → Word
answer_word families.V6 = words.Aaaa
answer_word families.V4 = words.A

-- a line, by its tokens, with its content
abbrev pub Says : List ℕ → Said → Type 0
Says line (Setting name value) =
    (number : List ℕ) × (tokens_of line ≡ spelling_of words.Set ∷ name_spelling name ∷ number ∷ [])
    × IsNumber (least_value name) (most_value name) number value
Says line (PolicyRow row) =
    (first : List ℕ) × (second : List ℕ) × (third : List ℕ)
    × (tokens_of line ≡ spelling_of words.Policy ∷ first ∷ second ∷ third ∷ [])
    × SpellsPrefix first row.prefix × IsNumber 0 most_u16 second row.precedence × IsNumber 0 most_u16 third row.label
Says line (HostSource source) =
    (first : List ℕ) × (second : List ℕ)
    × (tokens_of line ≡ spelling_of words.Source ∷ first ∷ second ∷ source_marks source)
    × SpellsSource first source.ip source.plen × IsNumber least_interface most_u16 second source.interface
Says line (HostRoute route) =
    (first : List ℕ) × (second : List ℕ)
    × (tokens_of line ≡ spelling_of words.Route ∷ first ∷ second ∷ route_marks route)
    × SpellsPrefix first route.prefix × IsNumber least_interface most_u16 second route.interface
Says line (Answer family reply) =
    (number : List ℕ) × (tokens : List (List ℕ))
    × (tokens_of line ≡ spelling_of (answer_word family) ∷ number ∷ tokens)
    × IsNumber 0 MAX_TICK number reply.tick × Lists tokens reply.addresses × (length tokens ≤ MAX_ADDRESSES)
Says line (RoundTrip ip rtt) =
    (address : List ℕ) × (number : List ℕ) × (tokens_of line ≡ spelling_of words.Rtt ∷ address ∷ number ∷ [])
    × Spells address ip × IsNumber MIN_DURATION MAX_DURATION number rtt
Says line (UsedBefore ip) =
    (address : List ℕ) × (tokens_of line ≡ spelling_of words.Used ∷ address ∷ []) × Spells address ip
Says line (OutcomeOf ip outcome) =
    (address : List ℕ) × (number : List ℕ)
    × (tokens_of line ≡ spelling_of words.Connect ∷ address ∷ mark_text outcome ∷ number ∷ [])
    × Spells address ip × IsNumber MIN_DURATION MAX_DURATION number (duration_of outcome)
Says line (Paused from to) =
    (first : List ℕ) × (second : List ℕ) × (tokens_of line ≡ spelling_of words.Pause ∷ first ∷ second ∷ [])
    × IsNumber 0 MAX_TICK first from × IsNumber least_pause_end MAX_PAUSE_END second to
Says line Ended = ⊥

-- a content that a line may have, if these addresses are known, apart from its spelling
abbrev pub IsAllowed : (Ip → Bool) → Said → Type 0
IsAllowed known (HostSource source) = IsTrue (is_usable source.ip)
IsAllowed known (Answer family reply) = IsTrue (are_of family reply.addresses)
IsAllowed known (RoundTrip ip rtt) = IsTrue (known ip)
IsAllowed known (UsedBefore ip) = IsTrue (known ip)
IsAllowed known (OutcomeOf ip outcome) = IsTrue (known ip)
IsAllowed known said = Unit {0}

-- the group of the lines with this content
abbrev pub group_said : Said → ℕ
group_said said = group_of (word_said said)

-- a text of the version may have it: version 2 adds round trip times, addresses used before, and the floor
abbrev pub has_name : Version → Name → Bool
has_name One Floor = false
has_name version name = true

abbrev pub may_say : Version → Said → Bool
may_say version (Setting name value) = has_name version name
may_say One (RoundTrip ip rtt) = false
may_say One (UsedBefore ip) = false
may_say version said = true

-- the groups never decrease, starting from this one
abbrev pub are_in_order : ℕ → List Said → Bool
are_in_order group [] = true
are_in_order group (s ∷ said) = nat_le group (group_said s) && are_in_order (group_said s) said

-- the lines between the first and the last one of a race, and their contents
pub record AreLines (version : Version) (lines : List (List ℕ)) (said : List Said) : Type 0 where
  pub short : AllByRecursion (λ line. length line ≤ most_line_bytes) lines
  pub say : AllZip Says lines said
  pub words : IsTrue (list_all (may_say version) said)
  pub order : IsTrue (are_in_order 0 said)
  pub settings_once : (name : Name) → length (filter_map (setting_said name) said) ≤ 1
  pub answers_once : (family : Family) → length (filter_map (answer_said family) said) ≤ 1

-- the whole text is a race with that value. Each line has a line end, so the last part of the text is empty. `IsRace`
-- requires that a race keeps its ranges, that its policy table is admitted, that sources and routes are a host's,
-- that addresses of an answer are of its family and differ, that round trip times, uses and outcomes are of addresses
-- in an answer, one of each, that a floor is at most the attempt delay, and that pauses follow each other
pub record IsRaceText (text : List ℕ) (race : Race) : Type 0 where
  pub version : Version
  pub lines : List (List ℕ)
  pub said : List Said
  pub parts : lines_of text ≡ header_of version ∷ lines ++ codes "end" ∷ [] ∷ []
  pub are : AreLines version lines said
  pub value : race ≡ race_of said
  pub fits : IsRace race

-- the text begins with a race's text
abbrev pub BeginsWithRace : List ℕ → Type 0
BeginsWithRace text =
    (front : List ℕ) × (rest : List ℕ) × (race : Race) × (text ≡ front ++ rest) × IsRaceText front race

-- the number of a line of the text, or of the part after the last line
abbrev pub IsLineOf : List ℕ → ℕ → Type 0
IsLineOf text line = (1 ≤ line) × (line ≤ length (lines_of text))

-- the fault of a reading is the text's, or an allocation failed at a line before which there is no fault
abbrev pub TellsFault : ℕ → TextKind → Option (ℕ × TextKind) → Type 0
TellsFault line kind fault =
    ((kind ≡ kinds.Memory) × MatchOption fault (Unit {0}) (λ f. line ≤ f.0)) ⊎ (fault ≡ Some (line, kind))
