-- The resolver that a text names.
use Rattle.std.specs.Prelude.{◌≡◌, ◌⊎◌, ◌<◌, List, Option, Some, None, ℕ, codes}
use Rattle.std.specs.Net.Grammar.{IsIpText, IsSocketText}
use Rattle.std.specs.Net.Socket.{IsPlainSocket, socket_ip, socket_port}
use Rattle.std.specs.declared.net.ip_addr.IpAddr.{IpAddr}
use Rattle.std.specs.declared.net.socket_addr.SocketAddr.{SocketAddr}
use Rattle.he_names.specs.Literals.{Zoned, literal_in, zoned_of}
use Rattle.he_names.specs.Targets.{IsUnfit, Means}
use Rattle.he_names.specs.declared.target.Target.{Target}
use Rattle.he_options.specs.declared.refusal.OptionFault.{OptionFault}
use Rattle.he_options.specs.declared.refusal.OptionFault.TheVariants as faults
use Rattle.he_options.specs.declared.resolver.Resolver.{Resolver}
use Rattle.he_options.specs.declared.resolver.Resolver.TheVariants as resolvers

-- an address with its zone (RFC 4007 section 11), as a person writes a host: so it is link-local, and the zone may be
-- an interface
abbrev pub HasZone : Zoned → Type 0
HasZone (ip, None) = ⊥
HasZone (ip, Some zone_id) = Unit {0}

abbrev pub IsOnLink : List ℕ → Resolver → Type 0
IsOnLink text (resolvers.OnLink server) =
    HasZone (zoned_of server) × (literal_in text ≡ Some (zoned_of server)) × ((target : Target) × Means text target)
IsOnLink text other = ⊥

-- the word; an address alone, which has the port of name servers (RFC 1035 section 4.2); one with a port, not 0; or
-- one on a link with its interface
abbrev pub NamesResolver : List ℕ → Resolver → Type 0
NamesResolver text resolvers.System = text ≡ codes "system"
NamesResolver text (resolvers.Server server) =
    (IsIpText text (socket_ip server) × IsPlainSocket server 53)
    ⊎ (((ip : IpAddr) → IsIpText text ip → ⊥) × IsSocketText text server × (0 < socket_port server))
NamesResolver text (resolvers.OnLink server) = IsOnLink text (resolvers.OnLink server)
NamesResolver text resolvers.Configured = ⊥

-- it has no address with a zone, or one that is not fit
abbrev pub LacksLink : List ℕ → OptionFault → Type 0
LacksLink text faults.Resolver = (literal : Zoned) → literal_in text ≡ Some literal → HasZone literal → ⊥
LacksLink text (faults.Server fault) = IsUnfit text fault
LacksLink text other = ⊥

-- a text that is neither the word, nor an address, nor one with a port other than 0, nor one with its interface
pub record LacksResolver (text : List ℕ) (fault : OptionFault) : Type 0 where
  pub word : (text ≡ codes "system") → ⊥
  pub address : (ip : IpAddr) → IsIpText text ip → ⊥
  pub port : ((server : SocketAddr) → IsSocketText text server → ⊥)
      ⊎ ((server : SocketAddr) × IsSocketText text server × (socket_port server ≡ 0))
  pub link : LacksLink text fault

-- the resolver of a line, by the text that it has for one
abbrev pub AsksResolver : Option (List ℕ) → Resolver → Type 0
AsksResolver None resolver = resolver ≡ resolvers.Configured
AsksResolver (Some text) resolver = NamesResolver text resolver
