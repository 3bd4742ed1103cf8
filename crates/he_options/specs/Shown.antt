-- How a name is shown, which must not reach a terminal as it is.
use Rattle.std.specs.Prelude.{◌==◌, ◌++◌, ◌/◌, ◌%◌, ◌+◌, ℕ, List, codes, if◌then◌else◌, nat_lt}
use Rattle.std.specs.Char.{encode_utf8, is_control}
use Rattle.std.specs.List.{flat_map}
use Rattle.std.specs.Str.{chars}

-- a digit to base 16
abbrev pub digit : ℕ → ℕ
digit n = if nat_lt n 10 then 48 + n else 87 + n

-- as `\x1b`
abbrev pub code_text : ℕ → List ℕ
code_text c = codes "\\x" ++ (encode_utf8 (digit (c / 16 % 16)) ++ encode_utf8 (digit (c % 16)))

-- tab, CR and the backslash are shown as `\t`, `\r` and `\\`, other control characters as `\xNN`
abbrev pub shown_char : ℕ → List ℕ
shown_char c =
    if c == 9 then codes "\\t" else if c == 13 then codes "\\r" else if c == 92 then codes "\\\\"
    else if is_control c then code_text c
    else encode_utf8 c

abbrev pub shown : List ℕ → List ℕ
shown name = flat_map shown_char (chars name)
