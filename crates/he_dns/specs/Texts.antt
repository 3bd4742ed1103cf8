-- Host names as texts (RFC 1035 section 2.3.1): labels separated by dots.
use Rattle.std.specs.Prelude.{◌≡◌, ℕ, ◌-◌, ◌<◌, ◌≤◌, ◌==◌, ◌&&◌, Bool, List, [], ◌∷◌, ◌++◌, length, nat_lt, slice_index, take, if◌then◌else◌}
use Rattle.std.specs.List.{AllByRecursion, count_by, slice_split}
use Rattle.he_dns.specs.declared.fault.NameFault.{NameFault}
use Rattle.he_dns.specs.declared.fault.NameFault.TheVariants as faults
use Rattle.he_dns.specs.Numbers.{max_label, max_name}

-- a host name in contracts: its octets without the root's empty label, the number of dots of its text, and whether
-- the last byte is one
pub record HostName : Type 0 where
  pub octets : List ℕ
  pub dots : ℕ
  pub is_absolute : Bool

-- each label after its length
abbrev pub labels_octets : List (List ℕ) → List ℕ
labels_octets [] = []
labels_octets (label ∷ more) = length label ∷ label ++ labels_octets more

-- the labels between the dots
abbrev pub labels_of : List ℕ → List (List ℕ)
labels_of body = slice_split (λ b. b == 46) body

abbrev pub IsLabel : List ℕ → Type 0
IsLabel label = (1 ≤ length label) × (length label ≤ max_label)

-- whether the last byte is a dot, and the text without it
abbrev pub is_absolute : List ℕ → Bool
is_absolute text = nat_lt 0 (length text) && slice_index text (length text - 1) == 46

abbrev pub body_of : List ℕ → List ℕ
body_of text = if is_absolute text then take (length text - 1) text else text

-- the text spells the name
pub record SpellsName (text : List ℕ) (name : HostName) : Type 0 where
  pub labels : AllByRecursion IsLabel (labels_of (body_of text))
  pub octets : name.octets ≡ labels_octets (labels_of (body_of text))
  pub short : length name.octets ≤ max_name
  pub dots : name.dots ≡ count_by (λ b. b == 46) text
  pub absolute : name.is_absolute ≡ is_absolute text

-- a faulty label that comes after correct ones only
abbrev pub IsFirstWrong : List (List ℕ) → (List ℕ → Type 0) → Type 0
IsFirstWrong labels Wrong =
    (before : List (List ℕ)) × (label : List ℕ) × (behind : List (List ℕ)) × (labels ≡ before ++ label ∷ behind)
    × AllByRecursion IsLabel before × Wrong label

-- why a text spells no name
abbrev pub HasNameFault : List ℕ → NameFault → Type 0
HasNameFault text faults.EmptyLabel = IsFirstWrong (labels_of (body_of text)) (λ label. length label ≡ 0)
HasNameFault text faults.LongLabel = IsFirstWrong (labels_of (body_of text)) (λ label. max_label < length label)
HasNameFault text faults.LongName =
    AllByRecursion IsLabel (labels_of (body_of text)) × (max_name < length (labels_octets (labels_of (body_of text))))
HasNameFault text faults.Memory = Unit {0}
