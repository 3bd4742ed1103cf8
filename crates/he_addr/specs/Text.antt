-- The grammar of the texts: relations between a whole text and the value that it spells. Texts are lists of bytes.
-- The grammar of addresses (RFC 4291 section 2.2) is that of the standard library.
use Rattle.std.specs.Prelude.{◌≡◌, ℕ, ◌+◌, ◌<◌, ◌≤◌, ◌==◌, false, List, ◌∷◌, ◌++◌, length, slice_index}
use Rattle.std.specs.List.{AllByRecursion}
use Rattle.std.specs.Net.Addr.{ipv4_bits, ipv6_bits}
use Rattle.std.specs.Net.Grammar.{IsIpText}
use Rattle.std.specs.Str.Parse.{IsNumeral, digits_value}
use Rattle.std.specs.declared.net.ip_addr.IpAddr.{IpAddr}
use Rattle.std.specs.declared.net.ip_addr.IpAddr.TheVariants as addresses
use Rattle.he_addr.specs.declared.ip.Ip.{Ip}
use Rattle.he_addr.specs.declared.ip.Ip.TheVariants.{V4, V6}
use Rattle.he_addr.specs.Ip.{mapped_of}
use Rattle.he_addr.specs.Prefix.{PrefixBits, IsPrefix, width_of}
use Rattle.he_addr.specs.Ranges.{number_digits, length_digits, mapped_len}

-- one to `most` decimal digits, without a leading `0` except in `0` itself, and their value
pub record SpellsDecimal (most : ℕ) (text : List ℕ) (number : ℕ) : Type 0 where
  pub numeral : IsNumeral 10 text
  pub few : length text ≤ most
  pub plain : slice_index text 0 ≡ 48 → length text ≡ 1
  pub value : number ≡ digits_value 10 text

-- a number in a text has one to ten digits
abbrev pub SpellsNumber : List ℕ → ℕ → Type 0
SpellsNumber = SpellsDecimal number_digits

-- an address of the standard library as an `Ip`: its family and its number, the first byte the most significant
abbrev pub ip_of : IpAddr → Ip
ip_of (addresses.V4 address) = V4 (ipv4_bits address)
ip_of (addresses.V6 address) = V6 (ipv6_bits address)

-- the text spells the address: four decimal numbers below 256 without leading zeros, joined by dots; or eight groups
-- of one to four hexadecimal digits, joined by colons, the last two also as an IPv4 text, with `::` at most once, for
-- one zero group or more (RFC 4291 section 2.2)
abbrev pub Spells : List ℕ → Ip → Type 0
Spells text ip = (address : IpAddr) × IsIpText text address × (ip ≡ ip_of address)

-- a source text: an address, `/` and a length of one to three digits, at most the bits of the family
pub record SpellsSource (text : List ℕ) (ip : Ip) (len : ℕ) : Type 0 where
  pub address : List ℕ
  pub digits : List ℕ
  pub parts : text ≡ address ++ 47 ∷ digits
  pub spelled : Spells address ip
  pub length : SpellsDecimal length_digits digits len
  pub within : len ≤ width_of ip

-- the first bits of an address; those of an IPv4 address come after the 96 bits of ::ffff:0:0
abbrev pub prefix_of : Ip → ℕ → PrefixBits
prefix_of (V4 n) len = record { bits = mapped_of (V4 n); len = mapped_len + len }
prefix_of (V6 n) len = record { bits = n; len = len }

-- a prefix text: as a source text, with no bit set past the length
pub record SpellsPrefix (text : List ℕ) (prefix : PrefixBits) : Type 0 where
  pub ip : Ip
  pub len : ℕ
  pub source : SpellsSource text ip len
  pub value : prefix ≡ prefix_of ip len
  pub clear : IsPrefix prefix.bits prefix.len

-- no byte of the text is this one
abbrev pub Lacks : ℕ → List ℕ → Type 0
Lacks mark text = AllByRecursion (λ b. (b == mark) ≡ false) text

-- a text that can appear between spaces in a line: 1 to `most` bytes, none of them a space or LF
pub record IsToken (most : ℕ) (text : List ℕ) : Type 0 where
  pub some : 0 < length text
  pub few : length text ≤ most
  pub no_space : Lacks 32 text
  pub no_newline : Lacks 10 text
