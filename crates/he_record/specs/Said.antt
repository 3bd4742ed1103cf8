-- The contents of record lines. The value of a record is the list of its lines' contents.
use Rattle.std.specs.Prelude.{ℕ, ◌≤◌, ◌==◌, ◌&&◌, ◌||◌, Bool, true, false, not, List, length, IsTrue, nat_le}
use Rattle.std.specs.List.{list_all}
use Rattle.he_addr.specs.declared.ip.Family.{Family}
use Rattle.he_addr.specs.declared.ip.Family.TheVariants.{V4, V6}
use Rattle.he_addr.specs.declared.ip.Ip.{Ip}
use Rattle.he_addr.specs.Ip.{InRange, same_ip}
use Rattle.he_addr.specs.Prefix.{PrefixBits, is_inside_mapped}
use Rattle.he_addr.specs.Reading.{is_prefix}
use Rattle.he_timeline.specs.declared.limits.TheConstants.{MAX_TICK}
use Rattle.he_words.specs.Ranges.{most_u16}
use Rattle.he_record.specs.declared.moment.Moment.{Moment}
use Rattle.he_record.specs.declared.reasons.ClientEnd.{ClientEnd}
use Rattle.he_record.specs.declared.reasons.ClientEnd.TheVariants as ends
use Rattle.he_record.specs.declared.reasons.LookupReason.{LookupReason}
use Rattle.he_record.specs.declared.reasons.ServerReason.{ServerReason}
use Rattle.he_record.specs.declared.reasons.AttemptReason.{AttemptReason}
use Rattle.he_record.specs.declared.words.RecordWord.{RecordWord}
use Rattle.he_record.specs.declared.words.RecordWord.TheVariants as words
use Rattle.he_record.specs.Moments.{is_moment}
use Rattle.he_record.specs.Ranges.{most_host_bytes, least_port}
use Rattle.he_record.specs.Words.{word_group}

-- the contents of a line: the time of tick 0; the requested host and port; the client's address; the reason that a
-- family has no address; a prefix by which the network's NAT64 has the IPv4 addresses; the reason that a name server
-- was given up, and after how many ticks; the reason that an attempt failed; an address that no client tried; the
-- recorded client's own result
pub data Said : Type 0 where
  AtSaid : Moment → Said
  ToSaid : List ℕ → ℕ → Said
  FromSaid : Ip → Said
  LookupSaid : Family → LookupReason → Said
  Nat64Said : PrefixBits → Said
  ServerSaid : Ip → ServerReason → ℕ → Said
  AttemptSaid : Ip → AttemptReason → Said
  UntriedSaid : Ip → Said
  EndSaid : ClientEnd → Said

-- the word and the group of the line
abbrev pub word_said : Said → RecordWord
word_said (AtSaid moment) = words.At
word_said (ToSaid host port) = words.To
word_said (FromSaid ip) = words.From
word_said (LookupSaid family reason) = words.Lookup
word_said (Nat64Said prefix) = words.Nat64
word_said (ServerSaid ip reason ticks) = words.Server
word_said (AttemptSaid ip reason) = words.Attempt
word_said (UntriedSaid ip) = words.Untried
word_said (EndSaid (ends.Connected ticks)) = words.Connected
word_said (EndSaid (ends.GaveUp ticks)) = words.GaveUp
word_said (EndSaid (ends.Failed ticks)) = words.Failed

abbrev pub group_said : Said → ℕ
group_said said = word_group (word_said said)

abbrev pub ticks_of : ClientEnd → ℕ
ticks_of (ends.Connected ticks) = ticks
ticks_of (ends.GaveUp ticks) = ticks
ticks_of (ends.Failed ticks) = ticks

-- printable ASCII without the space
abbrev pub is_host_byte : ℕ → Bool
is_host_byte byte = nat_le 33 byte && nat_le byte 126

-- 1 to 255 such bytes
abbrev pub is_host : List ℕ → Bool
is_host host = nat_le 1 (length host) && nat_le (length host) most_host_bytes && list_all is_host_byte host

-- the lengths of a NAT64 prefix (RFC 6052 section 2.2)
abbrev pub is_nat64_length : ℕ → Bool
is_nat64_length len = len == 32 || len == 40 || len == 48 || len == 56 || len == 64 || len == 96

-- a NAT64 prefix: of such a length, and no prefix of IPv4 addresses
abbrev pub is_nat64 : PrefixBits → Bool
is_nat64 prefix = is_prefix prefix && is_nat64_length prefix.len && not (is_inside_mapped prefix)

-- its values are in their ranges
abbrev pub MaySay : Said → Type 0
MaySay (AtSaid moment) = IsTrue (is_moment moment)
MaySay (ToSaid host port) = IsTrue (is_host host) × (least_port ≤ port) × (port ≤ most_u16)
MaySay (FromSaid ip) = InRange ip
MaySay (LookupSaid family reason) = Unit {0}
MaySay (Nat64Said prefix) = IsTrue (is_nat64 prefix)
MaySay (ServerSaid ip reason ticks) = InRange ip × (ticks ≤ MAX_TICK)
MaySay (AttemptSaid ip reason) = InRange ip
MaySay (UntriedSaid ip) = InRange ip
MaySay (EndSaid end) = ticks_of end ≤ MAX_TICK

-- the line gives the reason that the family has no address
abbrev pub same_family : Family → Family → Bool
same_family V6 V6 = true
same_family V4 V4 = true
same_family family other = false

abbrev pub looks_up : Family → Said → Bool
looks_up family (LookupSaid other reason) = same_family family other
looks_up family said = false

-- the line is an attempt at the address, or marks it as untried
abbrev pub tells_of : Ip → Said → Bool
tells_of ip (AttemptSaid other reason) = same_ip other ip
tells_of ip (UntriedSaid other) = same_ip other ip
tells_of ip said = false
