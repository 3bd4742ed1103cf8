-- The picture of a race as an SVG image: the rows of a picture on one scale of time.
use Rattle.std.specs.Prelude.{ℕ, ◌+◌, ◌-◌, ◌*◌, ◌++◌, List, [], ◌∷◌, length, min}
use Rattle.he_course.specs.declared.course.Course.{Course}
use Rattle.he_print.specs.declared.part.Fact.{Fact}
use Rattle.he_print.specs.declared.part.Fact.TheVariants.{Said, Number}
use Rattle.he_record.specs.Said.{Said as RecordSaid}
use Rattle.he_story.specs.Story.{outcome_facts}
use Rattle.he_statements.specs.declared.said.Said.{Said as Words}
use Rattle.he_draw.specs.declared.rows.Row.{Row}
use Rattle.he_draw.specs.declared.rows.What.{What}
use Rattle.he_draw.specs.declared.rows.What.TheVariants.{Answer, Wait, Missing, Pause, Attempt}
use Rattle.he_draw.specs.declared.shapes.TheConstants.{COLUMNS, LEFT, ROW, SIGN}
use Rattle.he_draw.specs.Picture.{column, label_fact, words_facts}
use Rattle.he_draw.specs.Rows.{end_of, rows_of}

-- the distance of a row from the top: the heading above the rows is as high as two of them
abbrev pub top_of : ℕ → ℕ
top_of place = min (ROW * (place + 2)) 18446744073709551615

-- the distance of a tick from the left
abbrev pub x_of : ℕ → ℕ → ℕ
x_of end tick = LEFT + column COLUMNS end tick

-- the start of a bar, and its width
abbrev pub bar_places : ℕ → ℕ → List (Fact Words)
bar_places left right = Number left ∷ Number (right - left + 1) ∷ []

-- between these places: an answer at the left one, an attempt's outcome after the right one
abbrev pub shape_facts : ℕ → ℕ → What → List (Fact Words)
shape_facts left right (Answer family usable) = Number left ∷ []
shape_facts left right (Wait usable) = bar_places left right ++ Number left ∷ []
shape_facts left right (Missing family) = []
shape_facts left right Pause = bar_places left right
shape_facts left right (Attempt ip became) =
    (Said became ∷ bar_places left right) ++ (Number (right + SIGN) ∷ Said became ∷ [])

-- label, shapes and words of the row of this place
abbrev pub image_row_facts : ℕ → ℕ → Row → List (Fact Words)
image_row_facts end place row =
    (Number (top_of place) ∷ label_fact row.what ∷ [])
    ++ (shape_facts (x_of end row.from) (x_of end row.to) row.what ++ words_facts row.from row.to row.what)

-- the rows, from this place on
abbrev pub image_rows_facts : ℕ → ℕ → List Row → List (Fact Words)
image_rows_facts end place [] = []
image_rows_facts end place (row ∷ more) =
    image_row_facts end place row ++ image_rows_facts end (place + 1) more

-- its height; how the race ended, as the title and above the rows; the depth of the edges of the time, and its end;
-- and the rows
unfoldable pub svg_facts : {A : Type 0} → List RecordSaid → Course A → List (Fact Words)
svg_facts said course =
    let top = Number (top_of (length (rows_of said course))) in
    (top ∷ [])
    ++ (outcome_facts said course
    ++ (outcome_facts said course
    ++ ((top ∷ top ∷ Number (end_of course) ∷ []) ++ image_rows_facts (end_of course) 0 (rows_of said course))))
