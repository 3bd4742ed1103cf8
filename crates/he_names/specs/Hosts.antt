-- The addresses that a hosts file has for a name (hosts(5)): a line has an address and then its names.
use Rattle.std.specs.Prelude.{ℕ, List, [], ◌∷◌, Option, None, if◌then◌else◌}
use Rattle.std.specs.List.{filter_map, list_any}
use Rattle.std.specs.Str.{str_eq_ignore_ascii_case}
use Rattle.he_addr.specs.declared.ip.Ip.{Ip}
use Rattle.he_addr.specs.Reading.{ip_in}
use Rattle.he_names.specs.Fields.{before, fields_of, lines_of}

-- the line up to the first number sign, which begins a comment
abbrev pub uncommented : List ℕ → List ℕ
uncommented line = before 35 line

-- the address that a line's fields give the name: the first field is the address, of either family, and a later one
-- is the name, compared case-insensitively (RFC 4343)
abbrev pub given_by : List ℕ → List (List ℕ) → Option Ip
given_by name [] = None
given_by name (address ∷ names) =
    if list_any (str_eq_ignore_ascii_case name) names then ip_in address else None

-- the address that a line gives the name
unfoldable pub line_gives : List ℕ → List ℕ → Option Ip
line_gives name line = given_by name (fields_of (uncommented line))

-- the addresses that the file gives the name, line by line
abbrev pub hosts_in : List ℕ → List ℕ → List Ip
hosts_in name text = filter_map (line_gives name) (lines_of text)
