-- The numbers of the texts. The law `laws::ranges` shows that the constants of the code equal them. Those of a race
-- are in the `Ranges` of he_timeline; the maximum numbers of rows, sources and routes are in those of he_select.
use Rattle.std.specs.Prelude.{ℕ}

-- the byte after each line, LF, and the byte between two tokens, a space
abbrev pub line_end : ℕ
line_end = 10

abbrev pub token_end : ℕ
token_end = 32

-- the maximum length of a line in bytes, without its line end
abbrev pub most_line_bytes : ℕ
most_line_bytes = 16384

-- the maximum number of answers of one family, each on one line
abbrev pub most_answers : ℕ
most_answers = 1

-- the maximum number of marks of a source and of a route
abbrev pub most_source_marks : ℕ
most_source_marks = 2

abbrev pub most_route_marks : ℕ
most_route_marks = 1

-- the maximum precedence, label and number of an interface: they have 16 bits
abbrev pub most_u16 : ℕ
most_u16 = 65535

-- the minimum end of a pause: the first tick after it
abbrev pub least_pause_end : ℕ
least_pause_end = 1

-- the maximum number of races in a text
abbrev pub most_races : ℕ
most_races = 4096
