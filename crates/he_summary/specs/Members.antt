-- Numbers between words: the members of objects, and the samples of metrics.
use Rattle.std.specs.Prelude.{ℕ, ◌/◌, ◌%◌, ◌++◌, List, codes, decimal}
use Rattle.std.specs.List.{flat_map}
use Rattle.he_summary.specs.declared.members.Member.{Member}

-- a number after its name
abbrev pub member_text : Member → List ℕ
member_text member = member.0.now ++ decimal member.1

-- milliseconds as seconds, with three digits after the point
unfoldable pub seconds_text : ℕ → List ℕ
seconds_text millis =
    decimal (millis / 1000)
    ++ (codes "." ++ (decimal (millis / 100 % 10) ++ (decimal (millis / 10 % 10) ++ decimal (millis % 10))))

abbrev pub second_text : Member → List ℕ
second_text member = member.0.now ++ seconds_text member.1

-- the same of a list of names and numbers
abbrev pub named : List ℕ × ℕ → List ℕ
named number = number.0 ++ decimal number.1

abbrev pub named_seconds : List ℕ × ℕ → List ℕ
named_seconds number = number.0 ++ seconds_text number.1

abbrev pub members_text : List (List ℕ × ℕ) → List ℕ
members_text members = flat_map named members

abbrev pub all_seconds_text : List (List ℕ × ℕ) → List ℕ
all_seconds_text members = flat_map named_seconds members
