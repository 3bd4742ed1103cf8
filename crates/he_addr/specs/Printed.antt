-- The printed text of an address (RFC 5952 section 4), stated without a search for it, and that of a source and a
-- prefix.
use Rattle.std.specs.Prelude.{◌≡◌, ◌⊎◌, ℕ, ◌+◌, ◌-◌, ◌*◌, ◌/◌, ◌%◌, ◌^◌, ◌<◌, ◌≤◌, ◌&&◌, Bool, false, List, [], ◌∷◌, ◌++◌, map, take, drop, replicate, decimal, if◌then◌else◌}
use Rattle.std.specs.Fmt.{digits}
use Rattle.std.specs.Int.{w32, to_be_bytes}
use Rattle.std.specs.List.{join_with_byte}
use Rattle.he_addr.specs.declared.ip.Ip.{Ip}
use Rattle.he_addr.specs.declared.ip.Ip.TheVariants.{V4, V6}
use Rattle.he_addr.specs.Prefix.{PrefixBits, is_inside_mapped}
use Rattle.he_addr.specs.Ranges.{mapped_len}

-- the four bytes of an IPv4 number in decimal, the most significant first, joined by dots
abbrev pub dotted : ℕ → List ℕ
dotted n = join_with_byte 46 (map decimal (to_be_bytes w32 n))

-- the eight 16-bit groups of an IPv6 number, the most significant first
abbrev pub groups_of : ℕ → List ℕ
groups_of n = map (λ place. n / 2 ^ (16 * place) % 65536) (7 ∷ 6 ∷ 5 ∷ 4 ∷ 3 ∷ 2 ∷ 1 ∷ 0 ∷ [])

-- a group in hexadecimal: lower case, no leading zeros
abbrev pub hex : ℕ → List ℕ
hex group = digits 16 false group

-- groups joined by colons
abbrev pub joined : List ℕ → List ℕ
joined groups = join_with_byte 58 (map hex groups)

-- the `len` groups from `start` on exist and are zero
abbrev pub IsZeroRun : List ℕ → ℕ → ℕ → Type 0
IsZeroRun groups start len = take len (drop start groups) ≡ replicate len 0

-- the run that `::` replaces: at least two zero groups, no run longer, and the first of its length
pub record IsShortened (groups : List ℕ) (start len : ℕ) : Type 0 where
  pub two : 2 ≤ len
  pub run : IsZeroRun groups start len
  pub first : (other n : ℕ) → IsZeroRun groups other n → (n < len) ⊎ ((n ≡ len) × (start ≤ other))

-- the groups with `::` in place of that run
abbrev pub shortened : List ℕ → ℕ → ℕ → List ℕ
shortened groups start len = joined (take start groups) ++ 58 ∷ 58 ∷ joined (drop (start + len) groups)

abbrev pub IsPrintedV6 : List ℕ → List ℕ → Type 0
IsPrintedV6 groups text = (((start len : ℕ) → IsZeroRun groups start len → len < 2) × (text ≡ joined groups))
    ⊎ ((start : ℕ) × (len : ℕ) × IsShortened groups start len × (text ≡ shortened groups start len))

-- the printed text of an address
abbrev pub IsPrinted : Ip → List ℕ → Type 0
IsPrinted (V4 n) text = text ≡ dotted n
IsPrinted (V6 n) text = IsPrintedV6 (groups_of n) text

-- the printed text of an address and a prefix length
abbrev pub IsPrintedSource : Ip → ℕ → List ℕ → Type 0
IsPrintedSource ip len text = (address : List ℕ) × IsPrinted ip address × (text ≡ address ++ 47 ∷ decimal len)

-- the address and the length that a prefix prints as: in IPv4 form if `is_dotted` holds and the prefix is one of IPv4
-- addresses
abbrev pub shown_as : Bool → PrefixBits → Ip × ℕ
shown_as is_dotted prefix =
    if is_dotted && is_inside_mapped prefix then (V4 (prefix.bits % 2 ^ 32), prefix.len - mapped_len)
    else (V6 prefix.bits, prefix.len)

-- the printed text of a prefix
abbrev pub IsPrintedPrefix : Bool → PrefixBits → List ℕ → Type 0
IsPrintedPrefix is_dotted prefix text =
    IsPrintedSource (shown_as is_dotted prefix).0 (shown_as is_dotted prefix).1 text
