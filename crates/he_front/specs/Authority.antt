-- The target of a tunnel: a host, a colon and a port (authority form, RFC 9112 section 3.2.3; RFC 3986 section 3.2).
use Rattle.std.specs.Prelude.{◌≡◌, ◌⊎◌, ℕ, ◌≤◌, ◌&&◌, ◌||◌, ◌==◌, Bool, true, List, [], ◌∷◌, ◌++◌, codes, length, nat_le}
use Rattle.std.specs.Char.{is_ascii_alphanumeric}
use Rattle.std.specs.List.{list_all, list_any}
use Rattle.he_addr.specs.declared.ip.Ip.TheVariants.{V6}
use Rattle.he_addr.specs.Text.{Spells, SpellsNumber}

-- the octets of a registered name (RFC 3986 section 3.2.2): unreserved, the percent sign of an octet written in
-- hexadecimal, and sub-delims
abbrev pub is_name_octet : ℕ → Bool
is_name_octet octet = is_ascii_alphanumeric octet || list_any (λ other. other == octet) (codes "-._~%!$&'()*+,;=")

-- a name, or an IPv4 address, of 1 to 255 of these octets
abbrev pub is_name : List ℕ → Bool
is_name host = (nat_le 1 (length host) && nat_le (length host) 255) && list_all is_name_octet host

-- the host as it appears in the target: an IPv6 address in brackets; a name or an IPv4 address
abbrev pub IsHostText : List ℕ → List ℕ → Type 0
IsHostText text host =
    ((text ≡ 91 ∷ host ++ 93 ∷ []) × ((n : ℕ) × Spells host (V6 n))) ⊎ ((text ≡ host) × (is_name host ≡ true))

-- a port from 1 to 65535 in decimal, without a sign and without leading zeros
abbrev pub SpellsPort : List ℕ → ℕ → Type 0
SpellsPort text port = SpellsNumber text port × (1 ≤ port) × (port ≤ 65535)

-- the text has this host and this port
pub record IsAuthority (text host : List ℕ) (port : ℕ) : Type 0 where
  pub host_text : List ℕ
  pub port_text : List ℕ
  pub parts : text ≡ host_text ++ 58 ∷ port_text
  pub is_host : IsHostText host_text host
  pub is_port : SpellsPort port_text port

-- it has none
abbrev pub IsNoAuthority : List ℕ → Type 0
IsNoAuthority text = (host : List ℕ) (port : ℕ) → IsAuthority text host port → ⊥
