-- Prefixes: their parts, the addresses that they contain, and the common prefix length of two addresses.
use Rattle.std.specs.Prelude.{ℕ, ◌+◌, ◌-◌, ◌%◌, ◌^◌, ◌<◌, ◌≤◌, ◌≡◌, ◌&&◌, Bool, nat_le}
use Rattle.he_addr.specs.declared.ip.Ip.{Ip}
use Rattle.he_addr.specs.declared.ip.Ip.TheVariants.{V4, V6}
use Rattle.he_addr.specs.Bits.{agrees, greatest}
use Rattle.he_addr.specs.Ip.{mapped_of, is_mapped_v6}
use Rattle.he_addr.specs.Ranges.{v4_bits, v6_bits, mapped_len}

-- the first `len` bits of `bits`, an IPv6 number; an IPv4 prefix is its mapped one
pub record PrefixBits : Type 0 where
  pub bits : ℕ
  pub len : ℕ

-- bits past the length are zero
pub record IsPrefix (bits len : ℕ) : Type 0 where
  pub short : len ≤ v6_bits
  pub fits : bits < 2 ^ 128
  pub clear : bits % 2 ^ (128 - len) ≡ 0

-- the greatest number that begins with the first `len` bits of `bits`
abbrev pub last_of : ℕ → ℕ → ℕ
last_of bits len = bits + (2 ^ (128 - len) - 1)

-- the address, as a mapped number, begins with the prefix
abbrev pub contains : PrefixBits → Ip → Bool
contains prefix ip = agrees 128 (mapped_of ip) prefix.bits prefix.len

-- inside ::ffff:0:0/96: a prefix that contains only IPv4 addresses
abbrev pub is_inside_mapped : PrefixBits → Bool
is_inside_mapped prefix = nat_le mapped_len prefix.len && is_mapped_v6 prefix.bits

-- the common prefix length of a source and a destination (RFC 6724 section 2.2): the number of leading bits, at most
-- the source's prefix length, that two addresses of one family share
abbrev pub common_of : Ip → ℕ → Ip → ℕ
common_of (V4 s) len (V4 d) = greatest (agrees 32 s d) len
common_of (V6 s) len (V6 d) = greatest (agrees 128 s d) len
common_of _ len _ = 0

-- the number of bits of an address of its family
abbrev pub width_of : Ip → ℕ
width_of (V4 n) = v4_bits
width_of (V6 n) = v6_bits
