-- Mirrors the code: the results of the readers, as functions on lists. `Text` defines which value a text spells.
use Rattle.std.specs.Prelude.{ℕ, ◌+◌, ◌*◌, ◌-◌, ◌%◌, ◌^◌, ◌==◌, ◌&&◌, Bool, List, [], ◌∷◌, Option, Some, None, option_and_then, length, slice_index, take, drop, nat_lt, nat_le, if◌then◌else◌, position}
use Rattle.std.specs.Char.{digit_value}
use Rattle.std.specs.Int.{w32, w128, from_be_bytes}
use Rattle.std.specs.Net.Addr.{octets_of}
use Rattle.std.specs.Net.Reader.{read_ipv4, read_ipv6, whole_value}
use Rattle.std.specs.Option.{option_map, option_map_or}
use Rattle.he_addr.specs.declared.ip.Family.{Family}
use Rattle.he_addr.specs.declared.ip.Ip.{Ip}
use Rattle.he_addr.specs.declared.ip.Ip.TheVariants.{V4, V6}
use Rattle.he_addr.specs.Ip.{is_of}
use Rattle.he_addr.specs.Prefix.{PrefixBits, width_of}
use Rattle.he_addr.specs.Text.{prefix_of}

infixl 10 ◌>>=◌
abbrev pub ◌>>=◌ : {A B : Type 0} → Option A → (A → Option B) → Option B
o >>= f = option_and_then f o

-- the number that the digits of `value` and then these write; None if a byte is no digit
abbrev pub digits_after : ℕ → List ℕ → Option ℕ
digits_after value [] = Some value
digits_after value (c ∷ cs) = if nat_lt (digit_value c) 10 then digits_after (value * 10 + digit_value c) cs else None

-- one to `most` decimal digits
unfoldable pub digits_in : ℕ → List ℕ → Option ℕ
digits_in most text = if nat_lt 0 (length text) && nat_le (length text) most then digits_after 0 text else None

-- one to `most` decimal digits with no leading zero
unfoldable pub numeral_in : ℕ → List ℕ → Option ℕ
numeral_in most text = if slice_index text 0 == 48 && nat_lt 1 (length text) then None else digits_in most text

-- a decimal number of one to ten digits
unfoldable pub number_in : List ℕ → Option ℕ
number_in text = numeral_in 10 text

-- the text before the first mark, and the text after it
unfoldable pub cut_in : ℕ → List ℕ → Option (List ℕ × List ℕ)
cut_in mark text = option_map (λ at. (take at text, drop (at + 1) text)) (position (λ b. b == mark) text)

-- the number of an IPv4 text, and of an IPv6 text
unfoldable pub v4_in : List ℕ → Option ℕ
v4_in text = option_map (λ octets. from_be_bytes w32 octets) (whole_value (read_ipv4 text))

unfoldable pub v6_in : List ℕ → Option ℕ
v6_in text = option_map (λ groups. from_be_bytes w128 (octets_of groups)) (whole_value (read_ipv6 text))

-- the address of a text
unfoldable pub ip_in : List ℕ → Option Ip
ip_in text = option_map_or (λ n. Some (V4 n)) (v4_in text) (option_map (λ n. V6 n) (v6_in text))

-- the address of a text, if it is of the family
unfoldable pub ip_of_in : Family → List ℕ → Option Ip
ip_of_in family text = do
  ip ← ip_in text
  if is_of family ip then Some ip else None

-- the address and the length of a source text
unfoldable pub source_in : List ℕ → Option (Ip × ℕ)
source_in text = do
  cut ← cut_in 47 text
  ip ← ip_in cut.0
  len ← numeral_in 3 cut.1
  if nat_le len (width_of ip) then Some (ip, len) else None

-- whether no bit is set past the length
abbrev pub is_prefix : PrefixBits → Bool
is_prefix prefix = nat_le prefix.len 128 && nat_lt prefix.bits (2 ^ 128) && (prefix.bits % 2 ^ (128 - prefix.len) == 0)

abbrev pub checked : PrefixBits → Option PrefixBits
checked prefix = if is_prefix prefix then Some prefix else None

-- the prefix of a text
unfoldable pub prefix_in : List ℕ → Option PrefixBits
prefix_in text = do
  source ← source_in text
  checked (prefix_of source.0 source.1)
