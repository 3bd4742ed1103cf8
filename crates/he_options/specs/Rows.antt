-- The rows of a comparison, as a line asks for them: `--set attempt=100,150` asks for `attempt=100` in row 0, and for
-- `attempt=150` in row 1.
use Rattle.std.specs.Prelude.{ℕ, ◌≡◌, ◌==◌, ◌++◌, Bool, List, [], ◌∷◌, None, codes, length, map, max}
use Rattle.std.specs.List.{AllZip, after_first, before_first, join_by, range_with_len, slice_get, slice_split}
use Rattle.std.specs.Option.{unwrap_or}
use Rattle.he_timeline.specs.Changes.{ChangeValues}
use Rattle.he_options.specs.Words.{AsksSettings}

abbrev pub is_equals : ℕ → Bool
is_equals byte = byte == 61

-- the numbers of a text NAME=N,N,..
abbrev pub list_of : List ℕ → List ℕ
list_of text = after_first is_equals text

abbrev pub numbers_in : List ℕ → List (List ℕ)
numbers_in list = slice_split (λ byte. byte == 44) list

-- the number of this row; a list that has none for it has one number, which is that of each row
abbrev pub number_at : ℕ → List ℕ → List ℕ
number_at row list = unwrap_or (slice_get (numbers_in list) row) list

-- what the text asks for in this row: NAME=N
abbrev pub text_in : ℕ → List ℕ → List ℕ
text_in row text = before_first is_equals text ++ 61 ∷ number_at row (list_of text)

-- there are as many rows as the longest list has numbers
abbrev pub row_count : List (List ℕ) → ℕ
row_count [] = 0
row_count (text ∷ more) = max (length (numbers_in (list_of text))) (row_count more)

-- the settings are exactly those that --set would ask for with the texts of this row
abbrev pub AsksRow : List (List ℕ) → ℕ → ChangeValues → Type 0
AsksRow texts row = AsksSettings (map (text_in row) texts) None

-- the recorded settings, and then `count` rows
abbrev pub AreFirstRows : ℕ → List (List ℕ) → List ChangeValues → Type 0
AreFirstRows count texts [] = ⊥
AreFirstRows count texts (first ∷ rows) =
    (first ≡ record { resolution = None; attempt = None; count = None; limit = None; floor = None })
    × AllZip (AsksRow texts) (range_with_len 0 count) rows

abbrev pub AreRows : List (List ℕ) → List ChangeValues → Type 0
AreRows texts = AreFirstRows (row_count texts) texts

-- the words for each, as `attempt=100 floor=10`
abbrev pub label_in : List (List ℕ) → ℕ → List ℕ
label_in texts row = join_by (λ text. text) (codes " ") (map (text_in row) texts)

abbrev pub first_labels : ℕ → List (List ℕ) → List (List ℕ)
first_labels count texts = codes "as recorded" ∷ map (label_in texts) (range_with_len 0 count)

abbrev pub labels_of : List (List ℕ) → List (List ℕ)
labels_of texts = first_labels (row_count texts) texts
