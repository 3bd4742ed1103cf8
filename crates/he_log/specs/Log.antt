-- The text of a value in a log line.
use Rattle.std.specs.Prelude.{ℕ, ◌==◌, ◌&&◌, ◌||◌, not, if◌then◌else◌, nat_lt, Bool, List}
use Rattle.std.specs.List.{list_all}
use Rattle.he_print.specs.Escaping.{string_text}

-- not a space, a control character, or a character with a meaning in a string
abbrev pub is_bare_byte : ℕ → Bool
is_bare_byte byte = nat_lt 32 byte && not (byte == 34) && not (byte == 92) && not (byte == 127)

-- a JSON string, which no octet of the text ends (`StringsEnd` of he_print); in a text line the octets themselves, if
-- each may appear there
abbrev pub value_text : Bool → List ℕ → List ℕ
value_text is_json value =
    if is_json || not (list_all is_bare_byte value) then string_text value else value
