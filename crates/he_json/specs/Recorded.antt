-- The members that a race's record adds to an object; none if the record has no lines.
use Rattle.std.specs.Prelude.{ℕ, ◌++◌, List, [], ◌∷◌, codes, decimal, Option, None, Some}
use Rattle.std.specs.List.{flat_map}
use Rattle.he_addr.specs.declared.ip.Family.{Family}
use Rattle.he_addr.specs.declared.ip.Ip.{Ip}
use Rattle.he_addr.specs.declared.ip.Ip.TheVariants.{V6}
use Rattle.he_addr.specs.Prefix.{PrefixBits}
use Rattle.he_addr.specs.Printing.{source_text}
use Rattle.he_print.specs.Escaping.{string_text}
use Rattle.he_record.specs.declared.moment.Moment.{Moment}
use Rattle.he_record.specs.declared.reasons.AttemptReason.{AttemptReason}
use Rattle.he_record.specs.declared.reasons.ClientEnd.{ClientEnd}
use Rattle.he_record.specs.declared.reasons.LookupReason.{LookupReason}
use Rattle.he_record.specs.declared.reasons.ServerReason.{ServerReason}
use Rattle.he_record.specs.Given.{at_given, end_given, from_given, to_given}
use Rattle.he_record.specs.Moments.{moment_text}
use Rattle.he_record.specs.Said.{Said, LookupSaid, Nat64Said, ServerSaid, AttemptSaid, UntriedSaid, EndSaid, ticks_of, word_said}
use Rattle.he_record.specs.Words.{attempt_spelling, family_spelling, lookup_spelling, server_spelling, word_spelling}
use Rattle.he_json.specs.Json.{address_text, parted}
use Rattle.he_json.specs.declared.recorded.Listing.{Listing}
use Rattle.he_json.specs.declared.recorded.Listing.TheVariants as listings

-- the requested host and port
abbrev pub target_text : Option (List ℕ × ℕ) → List ℕ
target_text None = []
target_text (Some target) =
    codes ",\"host\":" ++ (string_text target.0 ++ (codes ",\"port\":" ++ decimal target.1))

-- the time of tick 0
abbrev pub time_text : Option Moment → List ℕ
time_text None = []
time_text (Some moment) = codes ",\"at\":" ++ string_text (moment_text moment)

-- the client's address
abbrev pub client_text : Option Ip → List ℕ
client_text None = []
client_text (Some ip) = codes ",\"from\":" ++ address_text ip

-- the recorded client's own result, and after how many milliseconds
abbrev pub end_text : ClientEnd → List ℕ
end_text end =
    codes ",\"client\":{\"end\":" ++ (string_text (word_spelling (word_said (EndSaid end)))
    ++ (codes ",\"ms\":" ++ (decimal (ticks_of end) ++ codes "}")))

abbrev pub result_text : Option ClientEnd → List ℕ
result_text None = []
result_text (Some end) = end_text end

-- a family without an address, and the reason
abbrev pub lookup_text : Family → LookupReason → List ℕ
lookup_text family reason =
    codes "{\"family\":" ++ (string_text (family_spelling family)
    ++ (codes ",\"reason\":" ++ (string_text (lookup_spelling reason) ++ codes "}")))

-- a prefix by which the network's NAT64 has the IPv4 addresses
abbrev pub nat64_text : PrefixBits → List ℕ
nat64_text prefix = codes "\"" ++ (source_text (V6 prefix.bits) prefix.len ++ codes "\"")

-- a name server that was given up, the reason, and after how many milliseconds
abbrev pub server_text : Ip → ServerReason → ℕ → List ℕ
server_text ip reason ticks =
    codes "{\"address\":" ++ (address_text ip
    ++ (codes ",\"reason\":" ++ (string_text (server_spelling reason)
    ++ (codes ",\"ms\":" ++ (decimal ticks ++ codes "}")))))

-- an address, and the reason that the attempt at it failed
abbrev pub attempt_text : Ip → AttemptReason → List ℕ
attempt_text ip reason =
    codes "{\"address\":" ++ (address_text ip
    ++ (codes ",\"reason\":" ++ (string_text (attempt_spelling reason) ++ codes "}")))

-- an address that no client tried
abbrev pub untried_text : Ip → List ℕ
untried_text ip = codes "{\"address\":" ++ (address_text ip ++ codes ",\"untried\":true}")

-- the objects of a line in a listing: one, or none
abbrev pub object_texts : Listing → Said → List (List ℕ)
object_texts listings.Lookups (LookupSaid family reason) = lookup_text family reason ∷ []
object_texts listings.Prefixes (Nat64Said prefix) = nat64_text prefix ∷ []
object_texts listings.Servers (ServerSaid ip reason ticks) = server_text ip reason ticks ∷ []
object_texts listings.Outcomes (AttemptSaid ip reason) = attempt_text ip reason ∷ []
object_texts listings.Outcomes (UntriedSaid ip) = untried_text ip ∷ []
object_texts listing line = []

abbrev pub opening_text : Listing → List ℕ
opening_text listings.Lookups = codes ",\"lookups\":["
opening_text listings.Prefixes = codes ",\"nat64\":["
opening_text listings.Servers = codes ",\"servers\":["
opening_text listings.Outcomes = codes ",\"outcomes\":["

-- a member with an array of objects, if there are any
abbrev pub array_text : List ℕ → List (List ℕ) → List ℕ
array_text opening [] = []
array_text opening (first ∷ more) = opening ++ (parted [] (first ∷ more) ++ codes "]")

abbrev pub listing_text : Listing → List Said → List ℕ
listing_text listing said = array_text (opening_text listing) (flat_map (object_texts listing) said)

abbrev pub listings_text : List Said → List ℕ
listings_text said =
    listing_text listings.Lookups said
    ++ (listing_text listings.Prefixes said
    ++ (listing_text listings.Servers said ++ listing_text listings.Outcomes said))

abbrev pub recorded_text : List Said → List ℕ
recorded_text said =
    target_text (to_given said)
    ++ (time_text (at_given said)
    ++ (client_text (from_given said)
    ++ (result_text (end_given said) ++ listings_text said)))
