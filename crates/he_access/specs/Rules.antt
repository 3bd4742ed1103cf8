-- The rules by which the owner of a proxy says what its clients may reach.
use Rattle.std.specs.Prelude.{ℕ, ◌-◌, ◌≤◌, ◌≡◌, ◌⊎◌, ◌==◌, Bool, true, not, List, ◌∷◌, ◌++◌, Option, Some, if◌then◌else◌, length, map, slice_index, take}
use Rattle.std.specs.Char.{to_ascii_lowercase}
use Rattle.std.specs.List.{All, list_any}
use Rattle.he_addr.specs.declared.ip.Ip.{Ip}
use Rattle.he_addr.specs.declared.ip.Ip.TheVariants.{V4, V6}
use Rattle.he_addr.specs.Ip.{mapped_of}
use Rattle.he_addr.specs.Prefix.{IsPrefix, contains}
use Rattle.he_access.specs.Registries.{judged}
use Rattle.he_access.specs.declared.reach.Place.{Place}
use Rattle.he_access.specs.declared.rules.Network.{Network}
use Rattle.he_access.specs.declared.rules.Ports.{Ports}
use Rattle.he_access.specs.declared.rules.Rule.{Rule}
use Rattle.he_access.specs.declared.rules.Targets.{Targets}
use Rattle.he_access.specs.declared.rules.Targets.TheVariants as targets

-- ---- names

-- a name without the dot that may end it
abbrev pub undotted : List ℕ → List ℕ
undotted name = if slice_index name (length name - 1) == 46 then take (length name - 1) name else name

-- two names that differ only in the case of letters (RFC 4343)
abbrev pub AreAlike : List ℕ → List ℕ → Type 0
AreAlike name other = map to_ascii_lowercase name ≡ map to_ascii_lowercase other

abbrev pub IsNamed : List ℕ → List ℕ → Type 0
IsNamed name host = AreAlike (undotted host) (undotted name)

-- the host ends in a dot and the domain
abbrev pub IsAfterDot : List ℕ → List ℕ → Type 0
IsAfterDot domain host =
    (front : List ℕ) × (behind : List ℕ) × (host ≡ front ++ 46 ∷ behind) × AreAlike behind domain

abbrev pub IsBelow : List ℕ → List ℕ → Type 0
IsBelow domain host = IsAfterDot (undotted domain) (undotted host)

-- ---- targets

abbrev pub InPorts : Ports → ℕ → Type 0
InPorts ports port = (ports.first ≤ port) × (port ≤ ports.last)

-- the address begins with the network's bits, of which those past the length are zero
abbrev pub Has : Network → Ip → Type 0
Has network ip =
    IsPrefix network.bits network.len × (contains (record { bits = network.bits; len = network.len }) ip ≡ true)

-- the network has the address, the IPv4 address in it by which it is judged, or the IPv4 host that it embeds by a
-- prefix of a NAT64
abbrev pub IsInside : Network → Ip → Option ℕ → Type 0
IsInside network ip embedded =
    Has network ip
    ⊎ (Has network (V6 (judged (mapped_of ip))) ⊎ ((host : ℕ) × (embedded ≡ Some host) × Has network (V4 host)))

-- the targets have the host by its name alone
abbrev pub FitsName : Targets → List ℕ → Type 0
FitsName targets.All host = Unit {0}
FitsName (targets.Network network) host = ⊥
FitsName (targets.Host name) host = IsNamed name.now host
FitsName (targets.Domain name) host = IsNamed name.now host ⊎ IsBelow name.now host

abbrev pub FitsTargets : Targets → List ℕ → Ip → Option ℕ → Type 0
FitsTargets (targets.Network network) host ip embedded = IsInside network ip embedded
FitsTargets targets.All host ip embedded = FitsName targets.All host
FitsTargets (targets.Host name) host ip embedded = FitsName (targets.Host name) host
FitsTargets (targets.Domain name) host ip embedded = FitsName (targets.Domain name) host

-- the rule is for the place, of a client that asks for the host
abbrev pub Fits : Rule → List ℕ → Place → Option ℕ → Type 0
Fits rule host to embedded = InPorts rule.ports to.port × FitsTargets rule.targets host to.ip embedded

-- the targets may have an address of the host, if the rule allows; they have each, if it refuses
abbrev pub MayFitTargets : Bool → Targets → List ℕ → Type 0
MayFitTargets allows (targets.Network network) host = allows ≡ true
MayFitTargets allows targets.All host = FitsName targets.All host
MayFitTargets allows (targets.Host name) host = FitsName (targets.Host name) host
MayFitTargets allows (targets.Domain name) host = FitsName (targets.Domain name) host

-- before the host is looked up: the rule allows some address that it may have at the port, or refuses each
abbrev pub MayFit : Rule → List ℕ → ℕ → Type 0
MayFit rule host port = InPorts rule.ports port × MayFitTargets rule.allows rule.targets host

-- ---- the answer

-- the rule fits, and none before it does
pub record IsFirst (Fit : Rule → Type 0) (rules : List Rule) (rule : Rule) : Type 0 where
  pub before : List Rule
  pub behind : List Rule
  pub is : rules ≡ before ++ rule ∷ behind
  pub fits : Fit rule
  pub none : All (λ other. Fit other → ⊥) before

-- the first rule that fits decides; if none does, the answer is yes only if no rule allows anything
abbrev pub Settles : (Rule → Type 0) → List Rule → Bool → Type 0
Settles Fit rules answer =
    ((rule : Rule) × IsFirst Fit rules rule × (answer ≡ rule.allows))
    ⊎ (All (λ rule. Fit rule → ⊥) rules × (answer ≡ not (list_any (λ rule. rule.allows) rules)))
