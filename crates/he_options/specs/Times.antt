-- The times that options have: `5s`, `500ms`, or a number alone, in the unit of its option.
use Rattle.std.specs.Prelude.{◌*◌, ◌-◌, ℕ, Bool, List, Option, Some, None, codes, drop, if◌then◌else◌, length, nat_le, take}
use Rattle.std.specs.Str.{bytes_eq}
use Rattle.he_addr.specs.Reading.{number_in}
use Rattle.he_options.specs.declared.limits.TheConstants.{MOST_COUNT, SECOND}

abbrev pub ends_in : List ℕ → List ℕ → Bool
ends_in suffix text = bytes_eq (drop (length text - length suffix) text) suffix

abbrev pub before : List ℕ → List ℕ → List ℕ
before suffix text = take (length text - length suffix) text

-- so many units, each of so many milliseconds
abbrev pub scaled : ℕ → Option ℕ → Option ℕ
scaled unit None = None
scaled unit (Some count) = if nat_le count MOST_COUNT then Some (count * unit) else None

-- the milliseconds of a text
abbrev pub time_in : ℕ → List ℕ → Option ℕ
time_in unit text =
    if ends_in (codes "ms") text then scaled 1 (number_in (before (codes "ms") text))
    else if ends_in (codes "s") text then scaled SECOND (number_in (before (codes "s") text))
    else scaled unit (number_in text)

-- those of an option, where it is given
abbrev pub time_of : ℕ → Option (List ℕ) → Option ℕ
time_of unit None = None
time_of unit (Some text) = time_in unit text
