-- The addresses that a client synthesizes for IPv4 hosts (RFC 8305 section 7.1), by the prefixes of its network.
use Rattle.std.specs.Prelude.{ℕ, ◌+◌, ◌*◌, ◌-◌, ◌/◌, ◌^◌, ◌==◌, ◌&&◌, ◌||◌, Bool, not, List, Option, Some, None, if◌then◌else◌}
use Rattle.std.specs.List.{filter_map, flat_map}
use Rattle.he_nat64.specs.Embedding.{PrefixBits, bits_of, placed}

-- the IPv6 address of the IPv4 host
abbrev pub embedded : PrefixBits → ℕ → ℕ
embedded prefix v4 = prefix.bits + placed prefix.length v4

-- 0.0.0.0/8, 127.0.0.0/8, 169.254.0.0/16, 224.0.0.0/4 and 255.255.255.255: this network, loopback, link-local
-- addresses, multicast, and the broadcast address
abbrev pub is_never_embedded : ℕ → Bool
is_never_embedded v4 =
    v4 / 2 ^ 24 == 0 || v4 / 2 ^ 24 == 127 || v4 / 2 ^ 16 == 0xa9fe || v4 / 2 ^ 28 == 14 || v4 == 2 ^ 32 - 1

-- 10.0.0.0/8, 172.16.0.0/12 and 192.168.0.0/16 (RFC 1918)
abbrev pub is_private : ℕ → Bool
is_private v4 = v4 / 2 ^ 24 == 10 || v4 / 2 ^ 20 == 0xac1 || v4 / 2 ^ 16 == 0xc0a8

-- 64:ff9b::/96, which must not have private addresses (RFC 6052 section 3.1)
abbrev pub is_well_known : PrefixBits → Bool
is_well_known prefix = prefix.bits == 0x64_ff9b * 2 ^ 96 && bits_of prefix.length == 96

abbrev pub may_embed : PrefixBits → ℕ → Bool
may_embed prefix v4 = not (is_never_embedded v4) && not (is_well_known prefix && is_private v4)

abbrev pub synthesized_one : PrefixBits → ℕ → Option ℕ
synthesized_one prefix v4 = if may_embed prefix v4 then Some (embedded prefix v4) else None

-- each host by each prefix that may embed it: the hosts of the first prefix come first
abbrev pub synthesized : List PrefixBits → List ℕ → List ℕ
synthesized prefixes hosts = flat_map (λ prefix. filter_map (synthesized_one prefix) hosts) prefixes
