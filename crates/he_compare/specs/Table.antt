-- The table of a comparison.
use Rattle.std.specs.Prelude.{ℕ, ◌≡◌, ◌+◌, ⊤, List, [], ◌∷◌, length, map}
use Rattle.he_print.specs.declared.part.Fact.{Fact}
use Rattle.he_summary.specs.Written.{TellsEach}
use Rattle.he_summary.specs.declared.figures.Form.{Form}
use Rattle.he_summary.specs.declared.figures.Form.TheVariants as forms
use Rattle.he_totals.specs.declared.kept.Kept.{Kept}
use Rattle.he_compare.specs.Rows.{IsRow, object_facts, row_facts}
use Rattle.he_compare.specs.declared.row.Row.{Row}
use Rattle.he_compare.specs.declared.row.Said.{Said}

abbrev pub told_facts : Form → Row → List (Fact Said)
told_facts forms.Text row = row_facts row
told_facts _ row = object_facts row

-- these are the rows from this place on
abbrev pub AreRows : List Kept → ℕ → List Row → Type 0
AreRows kept place [] = ⊤
AreRows kept place (row ∷ rows) = IsRow place kept row × AreRows kept (place + 1) rows

-- `count` rows from this place on have been appended, each between words
abbrev pub IsTable : Form → List Kept → ℕ → ℕ → List ℕ → List ℕ → Type 0
IsTable form kept place count old new =
    (rows : List Row) × (length rows ≡ count) × AreRows kept place rows
    × TellsEach (map (told_facts form) rows) old new
