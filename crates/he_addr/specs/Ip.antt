-- An address and the answers of its methods: its number as an IPv4-mapped one, its scope, whether a client can
-- connect to it.
use Rattle.std.specs.Prelude.{ℕ, ◌+◌, ◌*◌, ◌^◌, ◌<◌, ◌==◌, ◌&&◌, ◌||◌, Bool, true, false, not, if◌then◌else◌, IsTrue}
use Rattle.he_addr.specs.declared.ip.Family.{Family}
use Rattle.he_addr.specs.declared.ip.Family.TheVariants as families
use Rattle.he_addr.specs.declared.ip.Ip.{Ip}
use Rattle.he_addr.specs.declared.ip.Ip.TheVariants.{V4, V6}
use Rattle.he_addr.specs.Bits.{agrees}
use Rattle.he_addr.specs.Ranges.{link_local_scope, site_local_scope, global_scope}

abbrev pub family_of : Ip → Family
family_of (V4 n) = families.V4
family_of (V6 n) = families.V6

abbrev pub is_v6 : Ip → Bool
is_v6 (V4 n) = false
is_v6 (V6 n) = true

-- whether the address is one of the family
abbrev pub is_of : Family → Ip → Bool
is_of families.V6 ip = is_v6 ip
is_of families.V4 ip = not (is_v6 ip)

abbrev pub same_ip : Ip → Ip → Bool
same_ip (V4 m) (V4 n) = m == n
same_ip (V6 m) (V6 n) = m == n
same_ip (V4 m) (V6 n) = false
same_ip (V6 m) (V4 n) = false

-- the address as an IPv6 number: an IPv4 address is mapped into ::ffff:0:0/96 (RFC 4291 section 2.5.5.2)
abbrev pub mapped_of : Ip → ℕ
mapped_of (V4 n) = 65535 * 2 ^ 32 + n
mapped_of (V6 n) = n

-- the number fits the family's width: a value of the definitions may be any number, one of the code always fits
abbrev pub InRange : Ip → Type 0
InRange (V4 n) = n < 2 ^ 32
InRange (V6 n) = n < 2 ^ 128

-- 127.0.0.0/8 and 169.254.0.0/16 (RFC 6724 section 3.2)
abbrev pub is_link_local_v4 : ℕ → Bool
is_link_local_v4 n = agrees 32 n 0x7f00_0000 8 || agrees 32 n 0xa9fe_0000 16

-- ::1 and fe80::/10 (RFC 6724 section 3.1, RFC 4291 section 2.5.3)
abbrev pub is_link_local_v6 : ℕ → Bool
is_link_local_v6 n = n == 1 || agrees 128 n (0xfe80 * 2 ^ 112) 10

-- fec0::/10
abbrev pub is_site_local_v6 : ℕ → Bool
is_site_local_v6 n = agrees 128 n (0xfec0 * 2 ^ 112) 10

-- the scope (RFC 6724 section 3.1)
abbrev pub scope_of : Ip → ℕ
scope_of (V4 n) = if is_link_local_v4 n then link_local_scope else global_scope
scope_of (V6 n) =
    if is_link_local_v6 n then link_local_scope else if is_site_local_v6 n then site_local_scope else global_scope

-- 224.0.0.0/4 (RFC 5771) and ff00::/8 (RFC 4291 section 2.7)
abbrev pub is_multicast_v4 : ℕ → Bool
is_multicast_v4 n = agrees 32 n 0xe000_0000 4

abbrev pub is_multicast_v6 : ℕ → Bool
is_multicast_v6 n = agrees 128 n (0xff00 * 2 ^ 112) 8

-- ::ffff:0:0/96 (RFC 4291 section 2.5.5.2)
abbrev pub is_mapped_v6 : ℕ → Bool
is_mapped_v6 n = agrees 128 n (0xffff * 2 ^ 32) 96

-- neither the unspecified address, nor multicast, nor an IPv4-mapped IPv6 address
abbrev pub is_usable : Ip → Bool
is_usable (V4 n) = not (n == 0) && not (is_multicast_v4 n)
is_usable (V6 n) = not (n == 0) && not (is_multicast_v6 n) && not (is_mapped_v6 n)

-- an address that may be tried, in range
abbrev pub IsUsable : Ip → Type 0
IsUsable ip = IsTrue (is_usable ip) × InRange ip
