-- The facts of pictures, in any words, signs and colours; and the picture of a race for a terminal.
use Rattle.std.specs.Prelude.{ℕ, ◌≡◌, ◌-◌, ◌*◌, ◌/◌, ◌%◌, ◌==◌, ◌++◌, if◌then◌else◌, List, [], ◌∷◌, min, Option}
use Rattle.std.specs.List.{flat_map}
use Rattle.he_addr.specs.declared.ip.Family.TheVariants as families
use Rattle.he_course.specs.declared.course.Course.{Course}
use Rattle.he_print.specs.declared.part.Fact.{Fact}
use Rattle.he_print.specs.declared.part.Fact.TheVariants.{Said, Number, Ip, Times}
use Rattle.he_print.specs.declared.part.Part.{Part}
use Rattle.he_print.specs.Parts.{States, fact_of}
use Rattle.he_record.specs.Said.{Said as RecordSaid}
use Rattle.he_story.specs.Story.{race_facts}
use Rattle.he_statements.specs.declared.said.Said.{Said as Words}
use Rattle.he_statements.specs.declared.said.Said.TheVariants as says
use Rattle.he_draw.specs.declared.rows.Row.{Row}
use Rattle.he_draw.specs.declared.rows.What.{What}
use Rattle.he_draw.specs.declared.rows.What.TheVariants.{Answer, Wait, Missing, Pause, Attempt}
use Rattle.he_draw.specs.Rows.{end_of, rows_of}

-- a text that states these facts, in this order, has been appended
abbrev pub Prints : {S : Type 0} → List (Fact S) → List ℕ → List ℕ → Type 0
Prints facts old new = (text : List ℕ) × States facts text × (new ≡ old ++ text)

-- the facts of parts
abbrev pub told : {S : Type 0} → List (Part S) → List (Fact S)
told parts = flat_map fact_of parts

-- the subject of a row
abbrev pub label_fact : What → Fact Words
label_fact (Answer family usable) = Said (says.Answered family)
label_fact (Wait usable) = Said (says.Answered families.V4)
label_fact (Missing family) = Said (says.Answered family)
label_fact Pause = Said says.Paused
label_fact (Attempt ip became) = Ip ip

-- the ticks of a row, and the event or state at them
abbrev pub words_facts : ℕ → ℕ → What → List (Fact Words)
words_facts from to (Answer family usable) = Number from ∷ Number usable ∷ Said says.ToTry ∷ []
words_facts from to (Wait usable) =
    Number from ∷ Number to ∷ Said says.Waits ∷ Number usable ∷ Said says.ToTry ∷ []
words_facts from to (Missing family) = Said (says.NoAnswer family) ∷ []
words_facts from to Pause = Number from ∷ Number to ∷ []
words_facts from to (Attempt ip became) = Number from ∷ Number to ∷ Said became ∷ []

-- the column of a tick, from 0; the time up to the end has `columns`. Nothing after the end is drawn: its column is
-- the last one
abbrev pub column : ℕ → ℕ → ℕ → ℕ
column columns end tick = if end == 0 then 0 else min tick end * (columns - 1) / end

-- this number of equal columns, by eights
abbrev pub times : ℕ → List (Fact Words)
times n = Times (n / 8) ∷ Times (n % 8) ∷ []

-- the content of `more + 1` columns: an answer in the first, an attempt's outcome in the last
abbrev pub bar_facts : What → ℕ → List (Fact Words)
bar_facts (Answer family usable) more = Said (says.Answered family) ∷ []
bar_facts (Wait usable) more = Said (says.Answered families.V4) ∷ times more
bar_facts (Missing family) more = []
bar_facts Pause more = Said says.Paused ∷ times more
bar_facts (Attempt ip became) more = times more ++ Said became ∷ []

-- all columns of a row: those before its first, its own, and those after its last
abbrev pub columns_facts : ℕ → ℕ → ℕ → What → List (Fact Words)
columns_facts columns from to what =
    times from ++ (bar_facts what (to - from) ++ times (columns - 1 - to))

abbrev pub row_facts : ℕ → ℕ → Row → List (Fact Words)
row_facts columns end row =
    label_fact row.what
    ∷ (columns_facts columns (column columns end row.from) (column columns end row.to) row.what
    ++ words_facts row.from row.to row.what)

-- the heading of its story, its rows in this number of columns, and the end of the scale below them
unfoldable pub picture_facts : {A : Type 0} → ℕ → List RecordSaid → Option (List ℕ) → Course A → List (Fact Words)
picture_facts columns said file course =
    race_facts said file course
    ++ (flat_map (row_facts columns (end_of course)) (rows_of said course) ++ Number (end_of course) ∷ [])
