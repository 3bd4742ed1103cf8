-- The lines of a system file, and the fields of a line. Texts are lists of bytes.
use Rattle.std.specs.Prelude.{ℕ, ◌==◌, ◌||◌, Bool, List, filter, length, map, nat_lt, position, take}
use Rattle.std.specs.List.{slice_split}
use Rattle.std.specs.Option.{option_map_or}
use Rattle.std.specs.Borrow.{Bor}

-- the texts that references point to
abbrev pub texts : List (Bor (List ℕ)) → List (List ℕ)
texts references = map (λ reference. reference.now) references

-- a text up to the first mark
abbrev pub before : ℕ → List ℕ → List ℕ
before mark text = option_map_or (λ at. take at text) (position (λ byte. byte == mark) text) text

-- a space, a tab, or a carriage return, which may precede a line feed
abbrev pub is_blank : ℕ → Bool
is_blank byte = ((byte == 32) || (byte == 9)) || (byte == 13)

-- the lines, separated by line feeds
abbrev pub lines_of : List ℕ → List (List ℕ)
lines_of text = slice_split (λ byte. byte == 10) text

-- the fields of a line, separated by its blanks
unfoldable pub fields_of : List ℕ → List (List ℕ)
fields_of line = filter (λ field. nat_lt 0 (length field)) (slice_split is_blank line)
