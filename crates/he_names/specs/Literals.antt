-- Addresses as a user writes them for a host: alone, or an IPv6 one in brackets (RFC 3986 section 3.2.2). An IPv6
-- address may have a zone, the interface of a link-local address, after a percent sign (RFC 4007 section 11).
use Rattle.std.specs.Prelude.{ℕ, ◌-◌, ◌*◌, ◌^◌, ◌==◌, ◌&&◌, ◌||◌, Bool, List, Option, Some, None, false, length, nat_le, nat_lt, not, slice_index, slice_range, if◌then◌else◌}
use Rattle.std.specs.List.{list_any}
use Rattle.std.specs.Option.{option_map, option_map_or}
use Rattle.std.specs.Borrow.{Bor}
use Rattle.he_addr.specs.Bits.{agrees}
use Rattle.he_addr.specs.Ip.{is_mapped_v6}
use Rattle.he_addr.specs.declared.ip.Family.TheVariants as families
use Rattle.he_addr.specs.declared.ip.Ip.{Ip}
use Rattle.he_addr.specs.declared.ip.Ip.TheVariants.{V4, V6}
use Rattle.he_addr.specs.Reading.{cut_in, ip_in, ip_of_in}
use Rattle.he_names.specs.declared.literals.ZonedIp.{ZonedIp}

-- an address with its zone, if it has one
abbrev pub Zoned : Type 0
Zoned = Ip × Option (List ℕ)

abbrev pub zoned_of : ZonedIp → Zoned
zoned_of literal = (literal.ip, option_map (λ (id : Bor (List ℕ)). id.now) literal.zone)

abbrev pub with_zone : (List ℕ × List ℕ) → Option Zoned
with_zone cut = option_map (λ ip. (ip, Some cut.1)) (ip_of_in families.V6 cut.0)

-- an address: an IPv6 one before a percent sign and its zone, or one of either family without
unfoldable pub zoned_in : List ℕ → Option Zoned
zoned_in text = option_map_or with_zone (cut_in 37 text) (option_map (λ ip. (ip, None)) (ip_in text))

-- one of IPv6, with or without a zone
abbrev pub of_v6 : Zoned → Option Zoned
of_v6 (V4 n, zone_id) = None
of_v6 (V6 n, zone_id) = Some (V6 n, zone_id)

abbrev pub is_bracketed : List ℕ → Bool
is_bracketed text = (nat_le 2 (length text) && slice_index text 0 == 91) && slice_index text (length text - 1) == 93

-- the text between the brackets
abbrev pub between : List ℕ → List ℕ
between text = slice_range text 1 (length text - 1)

-- the address that a text spells
unfoldable pub literal_in : List ℕ → Option Zoned
literal_in text = if is_bracketed text then option_map_or of_v6 (zoned_in (between text)) None else zoned_in text

-- fe80::/10 (RFC 4291 section 2.5.6): an address on the link of one interface
abbrev pub is_on_link : Ip → Bool
is_on_link (V4 n) = false
is_on_link (V6 n) = agrees 128 n (0xfe80 * 2 ^ 112) 10

-- the IPv4 address of an IPv4-mapped one (RFC 4291 section 2.5.5.2); any other address unchanged
abbrev pub unmapped : Ip → Ip
unmapped (V4 n) = V4 n
unmapped (V6 n) = if is_mapped_v6 n then V4 (n - 0xffff * 2 ^ 32) else V6 n

-- a space, a control character or a slash; no interface name has one
abbrev pub is_no_interface_byte : ℕ → Bool
is_no_interface_byte byte = not (nat_lt 32 byte && not (byte == 127)) || byte == 47

-- a zone that may name an interface: 1 to 15 bytes, none of them such a byte
abbrev pub is_interface : List ℕ → Bool
is_interface zone_id = (nat_le 1 (length zone_id) && nat_le (length zone_id) 15) && not (list_any is_no_interface_byte zone_id)
