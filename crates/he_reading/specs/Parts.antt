-- The parts of a text. The last part comes after the last line end, so it is not a whole line; if the text ends with
-- a whole line, it is empty.
use Rattle.std.specs.Prelude.{ℕ, ◌==◌, List}
use Rattle.std.specs.List.{slice_split}
use Rattle.he_words.specs.Ranges.{line_end, token_end}

-- the pieces between marks, before the first and after the last one
abbrev pub pieces_of : ℕ → List ℕ → List (List ℕ)
pieces_of mark text = slice_split (λ b. b == mark) text

-- the lines of a text, and then the text after the last of them
abbrev pub lines_of : List ℕ → List (List ℕ)
lines_of text = pieces_of line_end text

-- the tokens of a line; two spaces have an empty token between them
abbrev pub tokens_of : List ℕ → List (List ℕ)
tokens_of line = pieces_of token_end line
