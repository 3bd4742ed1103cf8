-- Numbers of a message (RFC 1035 section 2.3.2), and the numbers that the RFC assigns.
use Rattle.std.specs.Prelude.{◌≡◌, ℕ, ◌+◌, ◌*◌, ◌<◌, List, length, nat_lt, slice_index, if◌then◌else◌}
use Rattle.he_addr.specs.declared.ip.Family.{Family}
use Rattle.he_addr.specs.declared.ip.Family.TheVariants.{V4, V6}

-- the two octets at a place, the high one first
pub record IsWordAt (message : List ℕ) (at word : ℕ) : Type 0 where
  pub within : at + 1 < length message
  pub value : word ≡ slice_index message at * 256 + slice_index message (at + 1)

-- the time for which a record may be kept, in seconds, by its TTL: at most 2^31 - 1; a greater TTL counts as 0 (RFC
-- 2181 section 8)
abbrev pub counted_ttl : ℕ → ℕ
counted_ttl ttl = if nat_lt 0x7fffffff ttl then 0 else ttl

-- the TTL at a place: four octets, the highest first (section 3.2.1)
pub record IsTtlAt (message : List ℕ) (at ttl : ℕ) : Type 0 where
  pub high : ℕ
  pub low : ℕ
  pub high_word : IsWordAt message at high
  pub low_word : IsWordAt message (at + 2) low
  pub value : ttl ≡ counted_ttl (high * 65536 + low)

-- the maximum number of octets of a label (section 2.3.4)
abbrev pub max_label : ℕ
max_label = 63

-- the maximum number of octets of a name without the last one, the root's empty label: a whole name has at most 255
-- (section 2.3.4)
abbrev pub max_name : ℕ
max_name = 254

-- the maximum number of labels and pointers of a name in a message
abbrev pub max_parts : ℕ
max_parts = 255

-- the maximum number of aliases followed
abbrev pub max_aliases : ℕ
max_aliases = 16

-- the length of a message's header in octets (section 4.1.1)
abbrev pub header_len : ℕ
header_len = 12

-- TYPE of an address of the family (section 3.2.2; RFC 3596 section 2.1)
abbrev pub type_of : Family → ℕ
type_of V4 = 1
type_of V6 = 28

-- TYPE of the record that announces the room for datagrams (RFC 6891 section 6.1.1)
abbrev pub type_opt : ℕ
type_opt = 41

-- TYPE of an alias (section 3.2.2)
abbrev pub type_cname : ℕ
type_cname = 5

-- CLASS of the Internet (section 3.2.4)
abbrev pub class_in : ℕ
class_in = 1
