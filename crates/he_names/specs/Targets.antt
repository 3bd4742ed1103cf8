-- The host that a user's text names: an address, this machine, or a name to query.
use Rattle.std.specs.Prelude.{◌≡◌, ◌⊎◌, ◌==◌, ◌||◌, ⊤, ℕ, Bool, true, false, List, Option, Some, None, find, nat_le, not, string_bytes}
use Rattle.std.specs.Char.{is_ascii_alphanumeric}
use Rattle.std.specs.List.{list_any}
use Rattle.std.specs.Option.{option_map}
use Rattle.he_addr.specs.declared.ip.Ip.{Ip}
use Rattle.he_addr.specs.declared.ip.Ip.TheVariants as ips
use Rattle.idna.specs.declared.deny_list.TheConstants.AsciiDenyList as lists
use Rattle.idna.specs.Uts46.{domain_to_ascii}
use Rattle.he_names.specs.declared.special.SpecialUse.TheVariants as uses
use Rattle.he_names.specs.declared.target.HostFault.{HostFault}
use Rattle.he_names.specs.declared.target.HostFault.TheVariants as faults
use Rattle.he_names.specs.declared.target.Target.{Target}
use Rattle.he_names.specs.declared.target.Target.TheVariants as targets
use Rattle.he_names.specs.Literals.{is_interface, is_on_link, literal_in, unmapped}
use Rattle.he_names.specs.Numeric.{ends_in_number, numeric_address}
use Rattle.he_names.specs.Special.{is_localhost, special_use}

-- ---- an address

-- an address, an IPv4-mapped one as its IPv4 address; a link-local one has its interface
abbrev pub MeansAt : Ip → Option (List ℕ) → Target → Type 0
MeansAt ip None (targets.Address address) = (is_on_link ip ≡ false) × (address ≡ unmapped ip)
MeansAt ip (Some zone_id) (targets.OnLink address interface) =
    (is_on_link ip ≡ true) × (is_interface zone_id ≡ true) × (address ≡ ip) × (interface.items ≡ zone_id)
MeansAt ip zone_id other = ⊥

-- a link-local address without an interface, or with a zone that names none; an interface with any other address
abbrev pub UnfitAt : Ip → Option (List ℕ) → HostFault → Type 0
UnfitAt ip None (faults.NoInterface address) = (is_on_link ip ≡ true) × (address ≡ ip)
UnfitAt ip (Some zone_id) faults.Interface = (is_on_link ip ≡ true) × (is_interface zone_id ≡ false)
UnfitAt ip (Some zone_id) (faults.Zone address) = (is_on_link ip ≡ false) × (address ≡ ip)
UnfitAt ip zone_id faults.Memory = ⊤
UnfitAt ip zone_id other = ⊥

-- ---- a name

-- a letter, a digit, a hyphen, a dot or an underscore, or a byte of a non-ASCII character
abbrev pub is_name_byte : ℕ → Bool
is_name_byte byte = is_ascii_alphanumeric byte || nat_le 128 byte || byte == 45 || byte == 46 || byte == 95

-- a slash, as in a URL
abbrev pub is_slash : ℕ → Bool
is_slash byte = byte == 47

abbrev pub has_slash : List ℕ → Bool
has_slash text = list_any is_slash text

abbrev pub sign_in : List ℕ → Option ℕ
sign_in text = find (λ byte. not (is_name_byte byte)) text

-- the name in ASCII and in lower case (UTS 46 section 4.2), if the text is no address
abbrev pub IsName : List ℕ → List ℕ → Type 0
IsName text name =
    (literal_in text ≡ None) × (sign_in text ≡ None) × (domain_to_ascii lists.URL text ≡ Some name)

-- localhost, which is this machine, or a name in it (RFC 6761 section 6.3)
abbrev pub MeansHere : List ℕ → Target → Type 0
MeansHere name targets.Loopback = is_localhost name ≡ true
MeansHere name (targets.InLoopback given) = (is_localhost name ≡ false) × (string_bytes given ≡ name)
MeansHere name other = ⊥

-- this machine or a name in localhost; a name that multicast DNS resolves; any other name that doesn't end in a
-- number
abbrev pub MeansNamed : List ℕ → Target → Type 0
MeansNamed name targets.Loopback = (special_use name ≡ Some uses.Localhost) × MeansHere name targets.Loopback
MeansNamed name (targets.InLoopback given) =
    (special_use name ≡ Some uses.Localhost) × MeansHere name (targets.InLoopback given)
MeansNamed name (targets.Multicast given) = (special_use name ≡ Some uses.Local) × (string_bytes given ≡ name)
MeansNamed name (targets.Name given) =
    (special_use name ≡ None) × (ends_in_number name ≡ false) × (string_bytes given ≡ name)
MeansNamed name other = ⊥

-- a name that ends in a number, with the address that older software reads it as
abbrev pub IsNumeric : List ℕ → HostFault → Type 0
IsNumeric name (faults.Numeric address) =
    (ends_in_number name ≡ true) × (address ≡ option_map (λ n. ips.V4 n) (numeric_address name))
IsNumeric name faults.Memory = ⊤
IsNumeric name other = ⊥

-- a name that must not be queried, or that ends in a number
abbrev pub UnfitNamed : List ℕ → HostFault → Type 0
UnfitNamed name (faults.Special uses.Onion) = special_use name ≡ Some uses.Onion
UnfitNamed name (faults.Special uses.Invalid) = special_use name ≡ Some uses.Invalid
UnfitNamed name (faults.Numeric address) = (special_use name ≡ None) × IsNumeric name (faults.Numeric address)
UnfitNamed name faults.Memory = ⊤
UnfitNamed name other = ⊥

-- ---- both

abbrev pub Means : List ℕ → Target → Type 0
Means text target =
    ((ip : Ip) × (zone_id : Option (List ℕ)) × (literal_in text ≡ Some (ip, zone_id)) × MeansAt ip zone_id target)
    ⊎ ((name : List ℕ) × IsName text name × MeansNamed name target)

-- neither: an unfit address, a slash, another byte that no name has, a name without an ASCII form, an unfit name
abbrev pub IsUnfit : List ℕ → HostFault → Type 0
IsUnfit text faults.Path = (literal_in text ≡ None) × (has_slash text ≡ true)
IsUnfit text (faults.Sign byte) =
    (literal_in text ≡ None) × (has_slash text ≡ false) × (sign_in text ≡ Some byte)
IsUnfit text faults.NoAsciiForm =
    (literal_in text ≡ None) × (sign_in text ≡ None) × (domain_to_ascii lists.URL text ≡ None)
IsUnfit text faults.Memory = ⊤
IsUnfit text fault =
    ((ip : Ip) × (zone_id : Option (List ℕ)) × (literal_in text ≡ Some (ip, zone_id)) × UnfitAt ip zone_id fault)
    ⊎ ((name : List ℕ) × IsName text name × UnfitNamed name fault)
