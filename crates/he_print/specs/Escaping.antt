-- Strings of JSON texts (RFC 8259 section 7).
use Rattle.std.specs.Prelude.{ℕ, ◌≡◌, ◌==◌, ◌+◌, ◌/◌, ◌%◌, ◌&&◌, ◌||◌, ◌++◌, not, if◌then◌else◌, Bool, true, false, IsTrue, List, [], ◌∷◌, codes, nat_le, nat_lt, Option, None, Some}
use Rattle.std.specs.List.{flat_map, list_all}

-- a control character: a byte that may not appear in a string, or DEL
abbrev pub is_control : ℕ → Bool
is_control byte = nat_lt byte 32 || byte == 127

-- a byte that appears in a string unchanged
abbrev pub is_plain : ℕ → Bool
is_plain byte = nat_le 32 byte && not (byte == 34) && not (byte == 92) && not (byte == 127)

-- a hexadecimal digit
abbrev pub digit : ℕ → ℕ
digit n = if nat_lt n 10 then 48 + n else 87 + n

-- a byte in a string: a backslash precedes a quotation mark and a backslash; a control character is written as
-- `\u001b`
abbrev pub escaped : ℕ → List ℕ
escaped byte =
    if is_plain byte then byte ∷ []
    else if byte == 34 || byte == 92 then 92 ∷ byte ∷ []
    else codes "\\u00" ++ (digit (byte / 16) ∷ digit (byte % 16) ∷ [])

abbrev pub string_text : List ℕ → List ℕ
string_text bytes = 34 ∷ (flat_map escaped bytes ++ 34 ∷ [])

-- the text after a string, given the text after its first quotation mark; `is_escaped` after a backslash in it. None
-- if the string has no end
abbrev pub after_string : Bool → List ℕ → Option (List ℕ)
after_string is_escaped [] = None
after_string true (byte ∷ more) = after_string false more
after_string false (byte ∷ more) =
    if byte == 34 then Some more else (if byte == 92 then after_string true more else after_string false more)

-- no byte of a string but its last quotation mark ends it
abbrev pub StringsEnd : Type 0
StringsEnd = (bytes more : List ℕ) → after_string false (flat_map escaped bytes ++ 34 ∷ more) ≡ Some more

-- and no byte is a control character
abbrev pub StringsAreLines : Type 0
StringsAreLines = (bytes : List ℕ) → IsTrue (list_all (λ byte. not (is_control byte)) (string_text bytes))
