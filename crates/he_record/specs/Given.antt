-- The values of a record, for each kind of line of which it has at most one.
use Rattle.std.specs.Prelude.{ℕ, ◌==◌, Bool, true, false, List, [], ◌∷◌, Option, Some, None, find, if◌then◌else◌}
use Rattle.std.specs.List.{flat_map}
use Rattle.he_addr.specs.declared.ip.Family.{Family}
use Rattle.he_addr.specs.declared.ip.Ip.{Ip}
use Rattle.he_addr.specs.Prefix.{PrefixBits}
use Rattle.he_addr.specs.Reading.{is_prefix}
use Rattle.he_record.specs.declared.moment.Moment.{Moment}
use Rattle.he_record.specs.declared.reasons.ClientEnd.{ClientEnd}
use Rattle.he_record.specs.declared.reasons.LookupReason.{LookupReason}
use Rattle.he_record.specs.declared.reasons.AttemptReason.{AttemptReason}
use Rattle.he_record.specs.declared.words.RecordWord.{RecordWord}
use Rattle.he_record.specs.declared.words.RecordWord.TheVariants as words
use Rattle.he_record.specs.Said.{Said, AtSaid, ToSaid, FromSaid, LookupSaid, Nat64Said, AttemptSaid, UntriedSaid, EndSaid, group_said, looks_up, tells_of}
use Rattle.he_record.specs.Words.{word_group}

-- the line of the word's group, of the family's look-up, and of the address
abbrev pub line_with : RecordWord → List Said → Option Said
line_with word said = find (λ s. group_said s == word_group word) said

abbrev pub lookup_line : Family → List Said → Option Said
lookup_line family said = find (looks_up family) said

abbrev pub address_line : Ip → List Said → Option Said
address_line ip said = find (tells_of ip) said

abbrev pub moment_on : Option Said → Option Moment
moment_on (Some (AtSaid moment)) = Some moment
moment_on line = None

abbrev pub target_on : Option Said → Option (List ℕ × ℕ)
target_on (Some (ToSaid host port)) = Some (host, port)
target_on line = None

abbrev pub client_on : Option Said → Option Ip
client_on (Some (FromSaid ip)) = Some ip
client_on line = None

abbrev pub lookup_on : Option Said → Option LookupReason
lookup_on (Some (LookupSaid family reason)) = Some reason
lookup_on line = None

abbrev pub attempt_on : Option Said → Option AttemptReason
attempt_on (Some (AttemptSaid ip reason)) = Some reason
attempt_on line = None

abbrev pub is_untried_on : Option Said → Bool
is_untried_on (Some (UntriedSaid ip)) = true
is_untried_on line = false

abbrev pub end_on : Option Said → Option ClientEnd
end_on (Some (EndSaid end)) = Some end
end_on line = None

-- the time of tick 0
abbrev pub at_given : List Said → Option Moment
at_given said = moment_on (line_with words.At said)

-- the requested host and port
abbrev pub to_given : List Said → Option (List ℕ × ℕ)
to_given said = target_on (line_with words.To said)

-- the client's address
abbrev pub from_given : List Said → Option Ip
from_given said = client_on (line_with words.From said)

-- the reason that the family has no address
abbrev pub lookup_given : Family → List Said → Option LookupReason
lookup_given family said = lookup_on (lookup_line family said)

-- the reason that the attempt at the address failed
abbrev pub attempt_given : Ip → List Said → Option AttemptReason
attempt_given ip said = attempt_on (address_line ip said)

-- no client tried the address
abbrev pub is_untried_given : Ip → List Said → Bool
is_untried_given ip said = is_untried_on (address_line ip said)

-- the recorded client's own result
abbrev pub end_given : List Said → Option ClientEnd
end_given said = end_on (line_with words.Connected said)

-- the prefixes by which the network's NAT64 has the IPv4 addresses
abbrev pub nat64_of : Said → List PrefixBits
nat64_of (Nat64Said prefix) = if is_prefix prefix then prefix ∷ [] else []
nat64_of line = []

abbrev pub nat64_given : List Said → List PrefixBits
nat64_given said = flat_map nat64_of said

-- the addresses that no client tried
abbrev pub untried_of : Said → List Ip
untried_of (UntriedSaid ip) = ip ∷ []
untried_of line = []

abbrev pub untried_given : List Said → List Ip
untried_given said = flat_map untried_of said
