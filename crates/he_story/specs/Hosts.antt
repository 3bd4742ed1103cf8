-- Which IPv4 host an address is (RFC 6052), or the block that it belongs to.
use Rattle.std.specs.Prelude.{ℕ, ◌*◌, ◌^◌, ◌==◌, ◌&&◌, ◌++◌, if◌then◌else◌, List, [], ◌∷◌, Option, Some, None}
use Rattle.std.specs.Option.{option_map_or}
use Rattle.he_addr.specs.Bits.{agrees}
use Rattle.he_addr.specs.declared.ip.Ip.{Ip}
use Rattle.he_addr.specs.declared.ip.Ip.TheVariants.{V4, V6}
use Rattle.he_addr.specs.Prefix.{PrefixBits}
use Rattle.he_nat64.specs.Embedding.{at_place, is_kept, leading, length_of, prefix_of, PrefixBits as Nat64Bits}
use Rattle.he_print.specs.declared.part.Fact.{Fact}
use Rattle.he_print.specs.declared.part.Fact.TheVariants as facts
use Rattle.he_record.specs.Given.{nat64_given}
use Rattle.he_record.specs.Said.{Said as RecordSaid}
use Rattle.he_story.specs.Recorded.{say}
use Rattle.he_statements.specs.declared.said.Said.{Said}
use Rattle.he_statements.specs.declared.said.Said.TheVariants as says

-- the prefixes of the race's network, and the well-known one, 64:ff9b::/96
abbrev pub prefixes_of : List RecordSaid → List PrefixBits
prefixes_of said = nat64_given said ++ record { bits = 0x64_ff9b * 2 ^ 96; len = 96 } ∷ []

-- the IPv4 host of an address that begins with the prefix (RFC 6052 section 2.2)
abbrev pub extracted : Nat64Bits → ℕ → Option ℕ
extracted prefix address =
    if leading prefix.length address == prefix.bits && is_kept prefix.length address
    then Some (at_place prefix.length address)
    else None

abbrev pub host_by : PrefixBits → ℕ → Option ℕ
host_by prefix address =
    option_map_or (λ length. extracted (prefix_of length prefix.bits) address) (length_of prefix.len) None

abbrev pub or_else : Option ℕ → Option ℕ → Option ℕ
or_else (Some host) other = Some host
or_else None other = other

-- by the first of these prefixes that has one
abbrev pub host_of : List PrefixBits → ℕ → Option ℕ
host_of [] address = None
host_of (prefix ∷ more) address = or_else (host_by prefix address) (host_of more address)

-- that host, or the block of the address, by its prefix: 2002::/16 (RFC 3056), 2001::/32 (RFC 4380)
abbrev pub host_facts : Option ℕ → ℕ → List (Fact Said)
host_facts (Some host) n = say says.Nat64 (facts.Ip (V4 host) ∷ [])
host_facts None n =
    if agrees 128 n (0x2002 * 2 ^ 112) 16 then say says.SixToFour []
    else if agrees 128 n (0x2001 * 2 ^ 112) 32 then say says.Teredo []
    else []

abbrev pub block_facts : List PrefixBits → Ip → List (Fact Said)
block_facts prefixes (V4 n) = []
block_facts prefixes (V6 n) = host_facts (host_of prefixes n) n
