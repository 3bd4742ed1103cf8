-- Addresses as C has them: 4 or 16 bytes, the first byte first.
use Rattle.std.specs.Prelude.{ℕ, ◌≡◌, ◌++◌, if◌then◌else◌, List, [], ◌∷◌, eqb, length, take, Option, Some, None}
use Rattle.std.specs.Int.{w32, w128, from_be_bytes}
use Rattle.he_addr.specs.declared.ip.Family.{Family}
use Rattle.he_addr.specs.declared.ip.Family.TheVariants as families
use Rattle.he_addr.specs.declared.ip.Ip.{Ip}
use Rattle.he_addr.specs.declared.ip.Ip.TheVariants.{V4, V6}

-- the family of a number
abbrev pub family_in : ℕ → Option Family
family_in number = if eqb number 4 then Some families.V4 else if eqb number 6 then Some families.V6 else None

-- the number of bytes of an address
abbrev pub size_of : Family → ℕ
size_of families.V4 = 4
size_of families.V6 = 16

-- the address with these bytes
abbrev pub ip_in : Family → List ℕ → Ip
ip_in families.V4 bytes = V4 (from_be_bytes w32 bytes)
ip_in families.V6 bytes = V6 (from_be_bytes w128 bytes)

-- the address of a struct of `he.h`: an IPv4 address is the first 4 of the 16 bytes
abbrev pub address_of : ℕ → List ℕ → Ip
address_of number bytes = if eqb number 4 then ip_in families.V4 (take 4 bytes) else ip_in families.V6 bytes

-- the bytes are those of these addresses of the family, one after another
abbrev pub AreAddresses : Family → List ℕ → List Ip → Type 0
AreAddresses family bytes [] = bytes ≡ []
AreAddresses family bytes (ip ∷ ips) =
    (own : List ℕ) × (more : List ℕ) × (bytes ≡ own ++ more) × (length own ≡ size_of family)
    × (ip ≡ ip_in family own) × AreAddresses family more ips
