-- The prefixes of a network, in the IPv6 addresses that its name server has for ipv4only.arpa, a name that has only
-- IPv4 addresses (RFC 7050 section 3). A known address has to be in an IPv6 address once, at whatever place: one after
-- another at any of the 13 octets, or with the octet that is kept zero in its middle.
use Rattle.std.specs.Prelude.{ℕ, zero, suc, ◌+◌, ◌*◌, ◌/◌, ◌%◌, ◌^◌, ◌==◌, ◌&&◌, ◌||◌, Bool, List, Option, None, Some, if◌then◌else◌, nat_lt}
use Rattle.std.specs.List.{filter_map, list_any, list_all}
use Rattle.std.specs.Option.{option_map, is_none}
use Rattle.he_nat64.specs.declared.length.Length.{Length}
use Rattle.he_nat64.specs.declared.length.Length.TheVariants.{Bits32, Bits40, Bits48, Bits56, Bits64, Bits96}
use Rattle.he_nat64.specs.Embedding.{PrefixBits, at_place, is_kept, prefix_of}

-- the two addresses of ipv4only.arpa, 192.0.0.170 and 192.0.0.171
abbrev pub first_known : ℕ
first_known = 0xc0_00_00_aa

abbrev pub second_known : ℕ
second_known = 0xc0_00_00_ab

-- the IPv4 address is embedded by a prefix of the length
abbrev pub is_embedded : ℕ → ℕ → Length → Bool
is_embedded v4 address length = is_kept length address && (at_place length address == v4)

abbrev pub counted : Bool → ℕ
counted b = if b then 1 else 0

-- the number of octets among the last n at which its four octets end, one after another
unfoldable pub ends_in : ℕ → ℕ → ℕ → ℕ
ends_in v4 address zero = 0
ends_in v4 address (suc n) = ends_in v4 address n + counted (address / 2 ^ (8 * n) % 2 ^ 32 == v4)

-- the number of places at which the address has the IPv4 address
abbrev pub instances : ℕ → ℕ → ℕ
instances v4 address =
    ends_in v4 address 13 + counted (is_embedded v4 address Bits40) + counted (is_embedded v4 address Bits48)
    + counted (is_embedded v4 address Bits56)

-- the length of the prefix by which it is embedded
abbrev pub length_before : ℕ → ℕ → Option Length
length_before v4 address =
    if is_embedded v4 address Bits32 then Some Bits32
    else if is_embedded v4 address Bits40 then Some Bits40
    else if is_embedded v4 address Bits48 then Some Bits48
    else if is_embedded v4 address Bits56 then Some Bits56
    else if is_embedded v4 address Bits64 then Some Bits64
    else if is_embedded v4 address Bits96 then Some Bits96
    else None

-- the prefix that an address shows: it has the IPv4 address once, and by this prefix
abbrev pub shown : ℕ → ℕ → Option PrefixBits
shown v4 address =
    if instances v4 address == 1 then option_map (λ length. prefix_of length address) (length_before v4 address)
    else None

-- an address has the first one twice, so that its place is ambiguous
abbrev pub is_repeated : List ℕ → Bool
is_repeated addresses = list_any (λ a. nat_lt 1 (instances first_known a)) addresses

abbrev pub shows_none : List ℕ → Bool
shows_none addresses = list_all (λ a. is_none (shown first_known a)) addresses

-- the known address that is looked for
abbrev pub known_of : List ℕ → ℕ
known_of addresses = if is_repeated addresses || shows_none addresses then second_known else first_known

abbrev pub discovered : List ℕ → List PrefixBits
discovered addresses = filter_map (shown (known_of addresses)) addresses
