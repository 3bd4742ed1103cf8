-- The words of timeline texts: their spellings, and the groups of their lines.
use Rattle.std.specs.Prelude.{ℕ, ◌==◌, List, [], ◌∷◌, Bool, true, false, Option, Some, None, find, codes, Result, Ok, Err, if◌then◌else◌, nat_le}
use Rattle.std.specs.Str.{bytes_eq}
use Rattle.he_select.specs.Ranges.{most_rows, most_sources, most_routes}
use Rattle.he_timeline.specs.declared.limits.TheConstants.{MAX_PAUSES, MAX_RESOLUTION, MIN_ATTEMPT, MAX_ATTEMPT, MIN_COUNT, MAX_COUNT, MIN_LIMIT, MAX_LIMIT, MIN_FLOOR}
use Rattle.he_words.specs.Ranges.{most_answers}
use Rattle.he_words.specs.declared.fault.TextKind.{TextKind}
use Rattle.he_words.specs.declared.fault.TextKind.TheVariants as kinds
use Rattle.he_words.specs.declared.words.Word.{Word}
use Rattle.he_words.specs.declared.words.Version.{Version}
use Rattle.he_words.specs.declared.words.Version.TheVariants.{One, Two}
use Rattle.he_words.specs.declared.words.Word.TheVariants.{Set, Policy, Source, Route, Aaaa, A, Rtt, Used, Connect, Pause, End}
use Rattle.he_words.specs.declared.words.Name.{Name}
use Rattle.he_words.specs.declared.words.Name.TheVariants.{Resolution, Attempt, Count, Limit, Floor}

-- the groups of the lines after the first one, in their order
abbrev pub group_of : Word → ℕ
group_of Set = 1
group_of Policy = 2
group_of Source = 3
group_of Route = 4
group_of Aaaa = 5
group_of A = 6
group_of Rtt = 7
group_of Used = 8
group_of Connect = 9
group_of Pause = 10
group_of End = 11

-- the lines of two words are of one group
abbrev pub same_word : Word → Word → Bool
same_word word other = group_of word == group_of other

abbrev pub spelling_of : Word → List ℕ
spelling_of Set = codes "set"
spelling_of Policy = codes "policy"
spelling_of Source = codes "source"
spelling_of Route = codes "route"
spelling_of Aaaa = codes "aaaa"
spelling_of A = codes "a"
spelling_of Rtt = codes "rtt"
spelling_of Used = codes "used"
spelling_of Connect = codes "connect"
spelling_of Pause = codes "pause"
spelling_of End = codes "end"

abbrev pub name_spelling : Name → List ℕ
name_spelling Resolution = codes "resolution"
name_spelling Attempt = codes "attempt"
name_spelling Count = codes "count"
name_spelling Limit = codes "limit"
name_spelling Floor = codes "floor"

-- the first line of a race, by the version of its text
abbrev pub header_of : Version → List ℕ
header_of One = codes "race 1"
header_of Two = codes "race 2"

-- the word of the last line
abbrev pub is_end : Word → Bool
is_end End = true
is_end _ = false

-- the maximum number of lines of a word, and the fault of a further line
abbrev pub most_lines : Word → Option (ℕ × TextKind)
most_lines Policy = Some (most_rows, kinds.TooMany)
most_lines Source = Some (most_sources, kinds.TooMany)
most_lines Route = Some (most_routes, kinds.TooMany)
most_lines Aaaa = Some (most_answers, kinds.Repeated)
most_lines A = Some (most_answers, kinds.Repeated)
most_lines Pause = Some (MAX_PAUSES, kinds.TooMany)
most_lines _ = None

-- the word that a token spells; None if it spells none
unfoldable pub word_in : List ℕ → Option Word
word_in token =
    find (λ word. bytes_eq token (spelling_of word))
    (Set ∷ Policy ∷ Source ∷ Route ∷ Aaaa ∷ A ∷ Rtt ∷ Used ∷ Connect ∷ Pause ∷ End ∷ [])

-- the setting that a token names; None if it names none
unfoldable pub name_in : List ℕ → Option Name
name_in token = find (λ name. bytes_eq token (name_spelling name)) (Resolution ∷ Attempt ∷ Count ∷ Limit ∷ Floor ∷ [])

-- the words of the first four groups
abbrev pub is_head_word : Word → Bool
is_head_word word = nat_le (group_of word) 4

-- the version in a first line
abbrev pub header_in : List ℕ → Result Version TextKind
header_in line =
    if bytes_eq line (header_of One) then Ok One else if bytes_eq line (header_of Two) then Ok Two
    else Err kinds.Header

-- the minimum and the maximum value of a setting
abbrev pub least_value : Name → ℕ
least_value Resolution = 0
least_value Attempt = MIN_ATTEMPT
least_value Count = MIN_COUNT
least_value Limit = MIN_LIMIT
least_value Floor = MIN_FLOOR

abbrev pub most_value : Name → ℕ
most_value Resolution = MAX_RESOLUTION
most_value Attempt = MAX_ATTEMPT
most_value Count = MAX_COUNT
most_value Limit = MAX_LIMIT
most_value Floor = MAX_ATTEMPT
