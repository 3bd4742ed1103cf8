-- Names of a message, with compression (RFC 1035 section 4.1.4). A name is the list of its octets without the last
-- one, which is the root's empty label: each label comes after an octet with its length.
use Rattle.std.specs.Prelude.{◌≡◌, ℕ, ◌+◌, ◌*◌, ◌<◌, ◌≤◌, Bool, List, [], ◌∷◌, ◌++◌, length, slice_index, take, drop, map}
use Rattle.std.specs.Char.{to_ascii_lowercase}
use Rattle.std.specs.Str.{bytes_eq}
use Rattle.he_dns.specs.declared.parts.NamePart.{NamePart}
use Rattle.he_dns.specs.declared.parts.NamePart.TheVariants.{Root, Label, Pointer}
use Rattle.he_dns.specs.Numbers.{max_label, max_name, max_parts}

-- the part of a name at a place: the octet 0; a label of n octets after the octet n; or two octets whose highest two
-- bits are ones, and whose other bits are the place where the name continues
abbrev pub IsPartAt : List ℕ → ℕ → NamePart → Type 0
IsPartAt message at Root = (at < length message) × (slice_index message at ≡ 0)
IsPartAt message at (Label n) = (1 ≤ n) × (n ≤ max_label) × (at + n < length message) × (slice_index message at ≡ n)
IsPartAt message at (Pointer to) =
    (at + 1 < length message) × (192 ≤ slice_index message at)
    × (49152 + to ≡ slice_index message at * 256 + slice_index message (at + 1))

-- the parts of a name from a place on, up to the root. A label is followed by the part after it, a pointer by the
-- part at its target: a place before `begin`, where the preceding labels began
abbrev pub AreParts : List ℕ → ℕ → ℕ → List NamePart → Type 0
AreParts message begin at [] = ⊥
AreParts message begin at (Root ∷ more) = IsPartAt message at Root × (more ≡ [])
AreParts message begin at (Label n ∷ more) = IsPartAt message at (Label n) × AreParts message begin (at + (1 + n)) more
AreParts message begin at (Pointer to ∷ more) =
    IsPartAt message at (Pointer to) × (to < begin) × AreParts message to to more

-- the labels among the parts, each after its length
abbrev pub octets_of : List ℕ → ℕ → List NamePart → List ℕ
octets_of message at [] = []
octets_of message at (Root ∷ more) = []
octets_of message at (Label n ∷ more) = take (1 + n) (drop at message) ++ octets_of message (at + (1 + n)) more
octets_of message at (Pointer to ∷ more) = octets_of message to more

-- the end of the name that begins at a place: after the root, or after the first pointer
abbrev pub end_of : ℕ → List NamePart → ℕ
end_of at [] = at
end_of at (Root ∷ more) = at + 1
end_of at (Label n ∷ more) = end_of (at + (1 + n)) more
end_of at (Pointer to ∷ more) = at + 2

-- the name at a place, and its end there
pub record IsNameAt (message : List ℕ) (at : ℕ) (name : List ℕ) (end : ℕ) : Type 0 where
  pub parts : List NamePart
  pub stand : AreParts message at at parts
  pub few : length parts ≤ max_parts
  pub octets : name ≡ octets_of message at parts
  pub short : length name ≤ max_name
  pub ends : end ≡ end_of at parts

-- whether two names are equal without regard to the case of ASCII letters (RFC 1035 section 2.3.3, RFC 4343). An
-- octet with a length is at most 63, and so no letter
abbrev pub is_same : List ℕ → List ℕ → Bool
is_same name other = bytes_eq (map to_ascii_lowercase name) (map to_ascii_lowercase other)
