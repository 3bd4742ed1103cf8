-- The place of the 32 bits of an IPv4 address in an IPv6 address, by the prefix: the table of RFC 6052 section 2.2.
-- The first bit is the most significant. Bits 64 to 71 are kept zero, in the middle of the IPv4 address or beside it.
-- The bits after the IPv4 address are zero too.
use Rattle.std.specs.Prelude.{ℕ, ◌+◌, ◌*◌, ◌-◌, ◌/◌, ◌%◌, ◌^◌, ◌==◌, Bool, true, Option, Some, None, if◌then◌else◌}
use Rattle.he_nat64.specs.declared.length.Length.{Length}
use Rattle.he_nat64.specs.declared.length.Length.TheVariants.{Bits32, Bits40, Bits48, Bits56, Bits64, Bits96}

-- the number of values of the bits after the prefix
abbrev pub free_of : Length → ℕ
free_of Bits32 = 2 ^ 96
free_of Bits40 = 2 ^ 88
free_of Bits48 = 2 ^ 80
free_of Bits56 = 2 ^ 72
free_of Bits64 = 2 ^ 64
free_of Bits96 = 2 ^ 32

-- the address with all bits after the prefix zero
abbrev pub leading : Length → ℕ → ℕ
leading length address = address - address % free_of length

-- the IPv4 address at its place, all other bits zero
abbrev pub placed : Length → ℕ → ℕ
placed Bits32 v4 = v4 * 2 ^ 64
placed Bits40 v4 = v4 / 2 ^ 8 * 2 ^ 64 + v4 % 2 ^ 8 * 2 ^ 48
placed Bits48 v4 = v4 / 2 ^ 16 * 2 ^ 64 + v4 % 2 ^ 16 * 2 ^ 40
placed Bits56 v4 = v4 / 2 ^ 24 * 2 ^ 64 + v4 % 2 ^ 24 * 2 ^ 32
placed Bits64 v4 = v4 * 2 ^ 24
placed Bits96 v4 = v4

-- the bits at the place of the IPv4 address
abbrev pub at_place : Length → ℕ → ℕ
at_place Bits32 address = address / 2 ^ 64 % 2 ^ 32
at_place Bits40 address = address / 2 ^ 64 % 2 ^ 24 * 2 ^ 8 + address / 2 ^ 48 % 2 ^ 8
at_place Bits48 address = address / 2 ^ 64 % 2 ^ 16 * 2 ^ 16 + address / 2 ^ 40 % 2 ^ 16
at_place Bits56 address = address / 2 ^ 64 % 2 ^ 8 * 2 ^ 24 + address / 2 ^ 32 % 2 ^ 24
at_place Bits64 address = address / 2 ^ 24 % 2 ^ 32
at_place Bits96 address = address % 2 ^ 32

-- bits 64 to 71 are zero; of a prefix of 96 bits they are a part
abbrev pub is_kept : Length → ℕ → Bool
is_kept Bits96 address = true
is_kept _ address = address / 2 ^ 56 % 2 ^ 8 == 0

-- the number of values of the bits after the IPv4 address
abbrev pub rest_of : Length → ℕ
rest_of Bits32 = 2 ^ 56
rest_of Bits40 = 2 ^ 48
rest_of Bits48 = 2 ^ 40
rest_of Bits56 = 2 ^ 32
rest_of Bits64 = 2 ^ 24
rest_of Bits96 = 1

-- the lengths in bits
abbrev pub bits_of : Length → ℕ
bits_of Bits32 = 32
bits_of Bits40 = 40
bits_of Bits48 = 48
bits_of Bits56 = 56
bits_of Bits64 = 64
bits_of Bits96 = 96

abbrev pub length_of : ℕ → Option Length
length_of bits =
    if bits == 32 then Some Bits32
    else if bits == 40 then Some Bits40
    else if bits == 48 then Some Bits48
    else if bits == 56 then Some Bits56
    else if bits == 64 then Some Bits64
    else if bits == 96 then Some Bits96
    else None

-- the leading bits of an address, all others zero
pub record PrefixBits : Type 0 where
  pub bits : ℕ
  pub length : Length

abbrev pub prefix_of : Length → ℕ → PrefixBits
prefix_of length address = record { bits = leading length address; length = length }
