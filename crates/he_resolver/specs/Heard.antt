-- The answers for a host: from a name server's message for one of the names, or from the addresses known without one.
use Rattle.std.specs.Prelude.{◌≡◌, ◌⊎◌, ⊤, true, false, ℕ, List, Option, Some, None, Result, Ok, Err, map, slice_get}
use Rattle.std.specs.Global.{Vec}
use Rattle.he_addr.specs.declared.ip.Family.{Family}
use Rattle.he_addr.specs.declared.ip.Family.TheVariants as families
use Rattle.he_addr.specs.declared.ip.Ip.{Ip}
use Rattle.he_asking.specs.Said.{Heard, IsAnswered, IsHeardOf, IsSaidOf}
use Rattle.he_dns.specs.Texts.{HostName}
use Rattle.he_names.specs.Answers.{cleaned}
use Rattle.he_settings.specs.Faults.{is_absence}
use Rattle.he_settings.specs.Meant.{meant_by}
use Rattle.he_settings.specs.declared.fault.NamesFault.{NamesFault}
use Rattle.he_settings.specs.declared.fault.NamesFault.TheVariants as faults
use Rattle.he_resolver.specs.declared.family_lookup.FamilyLookup.{FamilyLookup}
use Rattle.he_resolver.specs.declared.lookup.Source.{Source}
use Rattle.he_resolver.specs.declared.lookup.Source.TheVariants as sources
use Rattle.he_resolver.specs.declared.resolver.Resolver.{Resolver}

-- ---- one family of the names

-- the answer is as it was, or is one heard now
abbrev pub HearsOf : List ℕ → Family → Option Heard → Option Heard → Type 0
HearsOf octets family old None = ⊤
HearsOf octets family old (Some told) = (Some told ≡ old) ⊎ IsHeardOf octets family told

-- the addresses are those in some message's answer to the query for one of the names, with unspecified ones replaced
abbrev pub AreHeard : List HostName → Family → List Ip → Type 0
AreHeard names family ips =
    (place : ℕ) × (name : HostName) × (slice_get names place ≡ Some name) × (id : ℕ) × (given : List Ip)
    × IsAnswered id name.octets family given × (ips ≡ map meant_by given)

-- that there is no address, or no such name, is some message's answer to the query for one of the names
abbrev pub IsSaidOfOne : List HostName → Family → NamesFault → Type 0
IsSaidOfOne names family fault = is_absence fault ≡ true
    → (place : ℕ) × (name : HostName) × (slice_get names place ≡ Some name) × IsSaidOf name.octets family fault

-- so is the answer so far
abbrev pub IsHeardOfOne : List HostName → Family → Option Heard → Type 0
IsHeardOfOne names family None = ⊤
IsHeardOfOne names family (Some (Ok answer)) =
    (place : ℕ) × (name : HostName) × (slice_get names place ≡ Some name) × IsHeardOf name.octets family (Ok answer)
IsHeardOfOne names family (Some (Err fault)) = IsSaidOfOne names family fault

-- the family's part of a look-up, with this answer
abbrev pub IsPart : List HostName → Family → FamilyLookup → Type 0
IsPart names family asking = (asking.family ≡ family) × IsHeardOfOne names family asking.told

-- ---- the results

abbrev pub Told : Type 0
Told = Result (Vec Ip) NamesFault

-- the family's addresses, cleaned, in a message's answer for one of the names; or that a message answers that there
-- are none
abbrev pub TellsHeard : List HostName → Family → Told → Type 0
TellsHeard names family (Ok ips) =
    (all : List Ip) × AreHeard names family all × (ips.items ≡ cleaned family all)
TellsHeard names family (Err fault) = IsSaidOfOne names family fault

-- the addresses are those of the answer that was heard, with unspecified ones replaced, cleaned
abbrev pub AreOwn : Option Heard → Family → List Ip → Type 0
AreOwn None family ips = ⊥
AreOwn (Some (Ok answer)) family ips = ips ≡ cleaned family (map meant_by answer.addresses.items)
AreOwn (Some (Err fault)) family ips = ⊥

-- or the fault is the one that was heard, or one of this machine
abbrev pub IsOwn : Option Heard → Family → Told → Type 0
IsOwn told family (Ok ips) = AreOwn told family ips.items
IsOwn told family (Err fault) = (told ≡ Some (Err fault)) ⊎ (is_absence fault ≡ false)

-- and the TTL is that of this answer
abbrev pub ttl_of : Option Heard → Option ℕ
ttl_of None = None
ttl_of (Some (Ok answer)) = answer.ttl
ttl_of (Some (Err fault)) = None

-- the family's addresses, cleaned, among those known without a name server
abbrev pub TellsKnown : Told → Family → Told → Type 0
TellsKnown (Ok all) family (Ok ips) = ips.items ≡ cleaned family all.items
TellsKnown (Ok all) family (Err fault) = fault ≡ faults.Memory
TellsKnown (Err why) family told = told ≡ Err why

-- the host's addresses are known; or messages answer the queries for the names; or the system's resolver has them
pub data Origin : Type 0 where
  Listed : (known : List Ip) → Origin
  Asked : (names : List HostName) → Origin
  BySystem : Origin

-- ---- both families

module _ {R : Type 0} where
  abbrev pub names_of : Resolver R → List HostName
  names_of resolver = resolver.setup.plan.names.items

  -- the answer of a family so far
  abbrev pub heard_of : Resolver R → Family → Option Heard
  heard_of resolver families.V6 = resolver.v6.told
  heard_of resolver families.V4 = resolver.v4.told

  -- the answer of each family is one that was heard for one of the names to query
  abbrev pub IsFaithful : Resolver R → Type 0
  IsFaithful resolver =
      IsPart (names_of resolver) families.V6 resolver.v6 × IsPart (names_of resolver) families.V4 resolver.v4

  -- ---- a look-up

  abbrev pub IsSound : Source R → Type 0
  IsSound (sources.Servers resolver) = IsFaithful resolver
  IsSound other = ⊤

  -- the origin of the addresses, which doesn't change during the look-up
  abbrev pub origin_of : Source R → Origin
  origin_of (sources.Known known) = Listed known.items
  origin_of (sources.Servers resolver) = Asked (names_of resolver)
  origin_of (sources.System query) = BySystem
  origin_of (sources.Told found) = BySystem

  -- the result of a family: from an answer that was heard, or from known addresses, the system's among them
  abbrev pub Tells : Source R → Family → Told → Type 0
  Tells (sources.Known known) family told = TellsKnown (Ok known) family told
  Tells (sources.Told found) family told = TellsKnown found family told
  Tells (sources.Servers resolver) family told = TellsHeard (names_of resolver) family told
  Tells (sources.System query) family told = ⊥

  -- with name servers, the addresses and the TTL are those of the answer that was heard
  abbrev pub AreOwnOf : Source R → Family → List Ip → Type 0
  AreOwnOf (sources.Servers resolver) family ips = AreOwn (heard_of resolver family) family ips
  AreOwnOf other family ips = ⊤

  abbrev pub ttl_in : Source R → Family → Option ℕ
  ttl_in (sources.Servers resolver) family = ttl_of (heard_of resolver family)
  ttl_in other family = None
