-- A page of races, for a browser.
use Rattle.std.specs.Prelude.{ℕ, ◌≡◌, ◌-◌, ◌==◌, ◌&&◌, ◌++◌, not, if◌then◌else◌, Bool, IsTrue, List, [], ◌∷◌, codes, min, Option, Some, None}
use Rattle.std.specs.List.{flat_map, list_all}
use Rattle.he_course.specs.declared.course.Course.{Course}
use Rattle.he_print.specs.declared.part.Fact.{Fact}
use Rattle.he_print.specs.declared.part.Fact.TheVariants.{Said, Number, Place}
use Rattle.he_print.specs.Parts.{States}
use Rattle.he_record.specs.Said.{Said as RecordSaid}
use Rattle.he_story.specs.Story.{Tells, race_facts}
use Rattle.he_statements.specs.declared.said.Said.{Said as Words}
use Rattle.he_draw.specs.declared.rows.Row.{Row}
use Rattle.he_draw.specs.declared.rows.What.{What}
use Rattle.he_draw.specs.declared.rows.What.TheVariants.{Answer, Wait, Missing, Pause, Attempt}
use Rattle.he_draw.specs.declared.totals.Counted.{Counted}
use Rattle.he_draw.specs.declared.totals.Counted.TheVariants as counts
use Rattle.he_draw.specs.declared.totals.Times.{Times}
use Rattle.he_draw.specs.declared.totals.Totals.{Totals}
use Rattle.he_draw.specs.Picture.{label_fact, words_facts}
use Rattle.he_draw.specs.Rows.{end_of, rows_of}

-- neither `&` nor `<`, which begin a character reference and a tag in HTML
abbrev pub is_plain : ℕ → Bool
is_plain byte = not (byte == 38) && not (byte == 60)

-- a byte in a text of HTML
abbrev pub escaped : ℕ → List ℕ
escaped byte = if is_plain byte then byte ∷ [] else if byte == 38 then codes "&amp;" else codes "&lt;"

-- no tag begins in an escaped text
abbrev pub NamesAreNoTags : Type 0
NamesAreNoTags = (bytes : List ℕ) → IsTrue (list_all (λ byte. not (byte == 60)) (flat_map escaped bytes))

-- the start of a bar, and its length up to the end of the race, in ticks
abbrev pub length_facts : ℕ → ℕ → ℕ → List (Fact Words)
length_facts end from to = Number from ∷ Number (min to end - from) ∷ []

abbrev pub track_facts : ℕ → ℕ → ℕ → What → List (Fact Words)
track_facts end from to (Answer family usable) = Number from ∷ []
track_facts end from to (Wait usable) = length_facts end from to ++ Number from ∷ []
track_facts end from to (Missing family) = []
track_facts end from to Pause = length_facts end from to
track_facts end from to (Attempt ip became) = Said became ∷ length_facts end from to

abbrev pub page_row_facts : ℕ → Row → List (Fact Words)
page_row_facts end row =
    label_fact row.what ∷ (track_facts end row.from row.to row.what ++ words_facts row.from row.to row.what)

-- the name of a race's section: by its number, and from the second text on by the place of its text too
abbrev pub anchor_facts : ℕ → ℕ → List (Fact Words)
anchor_facts file number = if file == 0 then Number number ∷ [] else Number number ∷ Place file ∷ []

-- the link to the section, with the time that the race lost, if any
abbrev pub index_facts : {A : Type 0} → Course A → ℕ → List (Fact Words)
index_facts course file =
    anchor_facts file course.number
    ++ ((Number course.number ∷ [])
    ++ (if course.account.lost == 0 then [] else Number course.account.lost ∷ []))

-- that link, the section's name and its end, by which sections are sorted, and a link to itself,
-- with its end
abbrev pub opening_facts : {A : Type 0} → Course A → ℕ → List (Fact Words)
opening_facts course file =
    index_facts course file
    ++ (anchor_facts file course.number
    ++ ((Number (end_of course) ∷ []) ++ (anchor_facts file course.number ++ Number (end_of course) ∷ [])))

-- its rows
unfoldable pub section_facts : {A : Type 0} → List RecordSaid → Course A → List (Fact Words)
section_facts said course = flat_map (page_row_facts (end_of course)) (rows_of said course)

-- a race's part of a page: its links, the heading of its story, its rows, and its story; nothing of the heading and
-- the story is read as a tag. The heading has the name of the race's text, if it has one
pub record IsSection {A : Type 0} (said : List RecordSaid) (course : Course A) (file : ℕ) (name : Option (List ℕ))
    (text : List ℕ) : Type 0 where
  pub links : List ℕ
  pub heading : List ℕ
  pub rows : List ℕ
  pub story : List ℕ
  pub last : List ℕ
  pub opened : States (opening_facts course file) links
  pub headed : States (race_facts said name course) heading
  pub drawn : States (section_facts said course) rows
  pub told : Tells said None course [] story
  pub parts : text ≡ links ++ (flat_map escaped heading ++ (rows ++ (flat_map escaped story ++ last)))

-- it has been appended
abbrev pub WritesSection : {A : Type 0} → List RecordSaid → Course A → ℕ → Option (List ℕ) → List ℕ → List ℕ
    → Type 0
WritesSection said course file name old new =
    (text : List ℕ) × IsSection said course file name text × (new ≡ old ++ text)

-- a text's name is a heading above its races; nothing of it is read as a tag
abbrev pub name_text : List ℕ → List ℕ
name_text name = codes "</article><article>\n<h2>" ++ (flat_map escaped name ++ codes "</h2>\n")

-- the counts of all races, each number after its meaning
abbrev pub count_facts : Counted → ℕ → List (Fact Counted)
count_facts counted n = Said counted ∷ Number n ∷ []

abbrev pub times_facts : Option Times → List (Fact Counted)
times_facts None = []
times_facts (Some times) =
    count_facts counts.Median times.median ++ (count_facts counts.P90 times.p90 ++ count_facts counts.P99 times.p99)

-- the end of the scale, and of the longest race where that is later
abbrev pub scale_facts : Totals → List (Fact Counted)
scale_facts totals =
    count_facts counts.End totals.end
    ++ (if totals.longest == totals.end then [] else count_facts counts.Longest totals.longest)

-- the end of the scale comes twice: for the browser, and for its reader
unfoldable pub totals_facts : Totals → List (Fact Counted)
totals_facts totals =
    (count_facts counts.End totals.end ++ count_facts counts.Races totals.races)
    ++ (times_facts totals.times
    ++ (count_facts counts.ByV6 totals.by_v6 ++ (count_facts counts.ByV4 totals.by_v4
    ++ (count_facts counts.NotWon totals.not_won ++ scale_facts totals))))
