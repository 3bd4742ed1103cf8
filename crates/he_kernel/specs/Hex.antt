-- Numbers in hexadecimal, and flags.
use Rattle.std.specs.Prelude.{ℕ, ◌+◌, ◌*◌, ◌==◌, ◌&&◌, Bool, not, bit_and, List, [], ◌∷◌, Option, Some, None, length, nat_le, nat_lt, if◌then◌else◌}
use Rattle.std.specs.Char.{digit_value}
use Rattle.he_addr.specs.Reading.{◌>>=◌}
use Rattle.he_kernel.specs.Parts.{field_of}

-- the number of these hexadecimal digits after those of value; none if a byte is not a digit
abbrev pub hex_after : ℕ → List ℕ → Option ℕ
hex_after value [] = Some value
hex_after value (c ∷ cs) = if nat_lt (digit_value c) 16 then hex_after (value * 16 + digit_value c) cs else None

-- the number of one to `most` hexadecimal digits
unfoldable pub hex_in : ℕ → List ℕ → Option ℕ
hex_in most text = if nat_lt 0 (length text) && nat_le (length text) most then hex_after 0 text else None

-- the number in the field at this place
unfoldable pub hex_field : ℕ → ℕ → List ℕ → Option ℕ
hex_field most place line = do
  text ← field_of place line
  hex_in most text

-- a bit of the mask is set
abbrev pub has : ℕ → ℕ → Bool
has flags mask = not (bit_and flags mask == 0)
