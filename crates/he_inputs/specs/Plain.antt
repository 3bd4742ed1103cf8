-- Texts without record lines.
use Rattle.std.specs.Prelude.{ℕ, ◌≡◌, Bool, false, not, List}
use Rattle.std.specs.List.{AllByRecursion, filter, join_with_byte}
use Rattle.he_words.specs.Ranges.{line_end}
use Rattle.he_reading.specs.Parts.{lines_of, tokens_of}
use Rattle.he_record.specs.Forms.{is_record_line}

-- no line of the text is a record line
abbrev pub HasNoRecord : List ℕ → Type 0
HasNoRecord text = AllByRecursion (λ line. is_record_line (tokens_of line) ≡ false) (lines_of text)

-- the line is not a record line
abbrev pub is_kept : List ℕ → Bool
is_kept line = not (is_record_line (tokens_of line))

-- the text without its record lines
abbrev pub without_records : List ℕ → List ℕ
without_records text = join_with_byte line_end (filter is_kept (lines_of text))
