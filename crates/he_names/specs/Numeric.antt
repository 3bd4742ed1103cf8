-- Numbers that older software reads as an IPv4 address (inet_aton(3)): `a`, `a.b`, `a.b.c` or `a.b.c.d`, in which the
-- last number fills the bytes that those before it leave.
use Rattle.std.specs.Prelude.{ℕ, ◌+◌, ◌*◌, ◌-◌, ◌^◌, ◌==◌, ◌&&◌, ◌||◌, Bool, List, [], ◌∷◌, Option, Some, None, drop, length, nat_le, nat_lt, slice_index, take, if◌then◌else◌}
use Rattle.std.specs.Char.{digit_value, is_ascii_digit, is_ascii_hexdigit}
use Rattle.std.specs.List.{list_all, slice_split}
use Rattle.he_addr.specs.Reading.{◌>>=◌}
use Rattle.he_names.specs.Conf.{last_of}
use Rattle.he_names.specs.Order.{is_absolute}

-- the number below 2 ^ 32 that the digits of `value` and then these write, in the radix
abbrev pub digits_after : ℕ → ℕ → List ℕ → Option ℕ
digits_after radix value [] = Some value
digits_after radix value (byte ∷ digits) =
    if nat_lt (digit_value byte) radix && nat_lt (value * radix + digit_value byte) (2 ^ 32)
    then digits_after radix (value * radix + digit_value byte) digits else None

abbrev pub is_hexadecimal : List ℕ → Bool
is_hexadecimal part = (nat_le 2 (length part) && slice_index part 0 == 48) && slice_index part 1 == 120

-- a number: hexadecimal after 0x, octal after 0, else decimal
unfoldable pub part_in : List ℕ → Option ℕ
part_in part =
    if is_hexadecimal part then digits_after 16 0 (drop 2 part)
    else if length part == 0 then None
    else if slice_index part 0 == 48 then digits_after 8 0 part
    else digits_after 10 0 part

-- a number below the limit
unfoldable pub part_below : ℕ → List ℕ → Option ℕ
part_below limit part = do
  number ← part_in part
  if nat_lt number limit then Some number else None

-- the IPv4 address of one to four parts
unfoldable pub address_of : List (List ℕ) → Option ℕ
address_of (a ∷ []) = part_below (2 ^ 32) a
address_of (a ∷ b ∷ []) = do
  first ← part_below 256 a
  rest ← part_below (2 ^ 24) b
  Some (first * 2 ^ 24 + rest)
address_of (a ∷ b ∷ c ∷ []) = do
  first ← part_below 256 a
  second ← part_below 256 b
  rest ← part_below (2 ^ 16) c
  Some (first * 2 ^ 24 + second * 2 ^ 16 + rest)
address_of (a ∷ b ∷ c ∷ d ∷ []) = do
  first ← part_below 256 a
  second ← part_below 256 b
  third ← part_below 256 c
  rest ← part_below 256 d
  Some (first * 2 ^ 24 + second * 2 ^ 16 + third * 2 ^ 8 + rest)
address_of other = None

-- the name without a final dot
abbrev pub body_of : List ℕ → List ℕ
body_of name = if is_absolute name then take (length name - 1) name else name

abbrev pub labels_of : List ℕ → List (List ℕ)
labels_of name = slice_split (λ byte. byte == 46) (body_of name)

-- the label consists of digits: decimal ones or, after 0x, hexadecimal ones
abbrev pub is_number : List ℕ → Bool
is_number label =
    (nat_le 1 (length label) && list_all is_ascii_digit label)
    || (is_hexadecimal label && list_all is_ascii_hexdigit (drop 2 label))

-- whether the last label is a number, which no top-level domain is (RFC 3696 section 2)
abbrev pub ends_in_number : List ℕ → Bool
ends_in_number name = is_number (last_of [] (labels_of name))

-- the IPv4 address that the whole name is read as
abbrev pub numeric_address : List ℕ → Option ℕ
numeric_address name = address_of (labels_of name)
