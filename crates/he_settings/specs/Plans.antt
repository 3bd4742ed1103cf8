-- The queries of a look-up: the names for a host as in resolver(5), and the name servers.
use Rattle.std.specs.Prelude.{◌≡◌, ◌≢◌, ◌⊎◌, ◌*◌, ℕ, List, [], ◌∷◌, Some, None, codes, string_bytes, true}
use Rattle.std.specs.List.{list_any}
use Rattle.std.specs.Net.Addr.{IsIpv4OfBits, IsIpv6OfBits}
use Rattle.std.specs.Net.Socket.{socket_scope_id, v4_ip, v4_port, v6_ip, v6_port}
use Rattle.std.specs.declared.net.socket_addr.SocketAddr.{SocketAddr}
use Rattle.std.specs.declared.net.socket_addr.SocketAddr.TheVariants as sockets
use Rattle.he_addr.specs.declared.ip.Ip.{Ip}
use Rattle.he_addr.specs.declared.ip.Ip.TheVariants as ips
use Rattle.he_dns.specs.declared.fault.NameFault.{NameFault}
use Rattle.he_dns.specs.declared.fault.NameFault.TheVariants as faults
use Rattle.he_dns.specs.Texts.{HasNameFault, HostName, SpellsName}
use Rattle.he_names.specs.Conf.{has_option, option_in, search_in, servers_in}
use Rattle.he_names.specs.Environment.{amended}
use Rattle.he_names.specs.Literals.{Zoned, zoned_of}
use Rattle.he_names.specs.Order.{names_of}
use Rattle.he_names.specs.Special.{is_of_local}
use Rattle.he_names.specs.declared.environment.Environment.{Environment}
use Rattle.he_names.specs.declared.target.Target.{Target}
use Rattle.he_names.specs.declared.target.Target.TheVariants as targets
use Rattle.he_settings.specs.Scopes.{IsNoScope, IsScope}
use Rattle.he_settings.specs.declared.choice.Choice.{Choice}
use Rattle.he_settings.specs.declared.choice.Choice.TheVariants as choices
use Rattle.he_settings.specs.declared.plan.QueryPlan.{QueryPlan}

-- a result for each item, in order; items without one are left out
module _ {X Y : Type 0} (Is : X → Y → Type 0) (Lacks : X → Type 0) where
  abbrev pub StandFor : List X → List Y → Type 0
  StandFor [] ys = ys ≡ []
  StandFor (x ∷ xs) [] = Lacks x × StandFor xs []
  StandFor (x ∷ xs) (y ∷ ys) = (Is x y × StandFor xs ys) ⊎ (Lacks x × StandFor xs (y ∷ ys))

-- ---- names

-- the text is not a name, as one that a domain of the search list makes too long
abbrev pub SpellsNone : List ℕ → Type 0
SpellsNone text = (fault : NameFault) × (fault ≢ faults.Memory) × HasNameFault text fault

-- the names that the texts spell; texts that are not names are left out
abbrev pub AreSpelled : List (List ℕ) → List HostName → Type 0
AreSpelled texts names = StandFor SpellsName SpellsNone texts names

-- ---- name servers

-- the address at port 53 (RFC 1035 section 4.2)
abbrev pub IsAt : Ip → SocketAddr → Type 0
IsAt (ips.V4 n) (sockets.V4 address) = IsIpv4OfBits (v4_ip address) n × (v4_port address ≡ 53)
IsAt (ips.V6 n) (sockets.V6 address) = IsIpv6OfBits (v6_ip address) n × (v6_port address ≡ 53)
IsAt ip address = ⊥

-- the socket address of a server in the file: over its interface, if it has one
abbrev pub IsServer : Zoned → SocketAddr → Type 0
IsServer (ip, None) address = IsAt ip address × (socket_scope_id address ≡ 0)
IsServer (ips.V4 n, Some zone_id) address = IsAt (ips.V4 n) address
IsServer (ips.V6 n, Some zone_id) address = IsAt (ips.V6 n) address × IsScope zone_id (socket_scope_id address)

-- a server in the file whose interface this machine doesn't have
abbrev pub IsAbsent : Zoned → Type 0
IsAbsent (ips.V6 n, Some zone_id) = IsNoScope zone_id
IsAbsent server = ⊥

-- only the chosen server, over the interface of its zone if it has one; otherwise those in the file, in order
abbrev pub AreServers : Choice → List ℕ → List SocketAddr → Type 0
AreServers (choices.Server server) settings servers = servers ≡ server ∷ []
AreServers (choices.OnLink server) settings servers =
    (address : SocketAddr) × IsServer (zoned_of server) address × (servers ≡ address ∷ [])
AreServers other settings servers = StandFor IsServer IsAbsent (servers_in settings) servers

-- ---- both

-- the queries for a host by a resolver configuration
pub record IsPlan (host settings : List ℕ) (choice : Choice) (plan : QueryPlan) : Type 0 where
  pub names : AreSpelled (names_of host (option_in (codes "ndots:") 0 1 15 settings) (search_in settings))
      plan.names.items
  pub servers : AreServers choice settings plan.servers.items
  pub sends : plan.sends ≡ option_in (codes "timeout:") 1 5 30 settings * option_in (codes "attempts:") 1 2 5 settings
  pub use_vc : plan.use_vc ≡ has_option (codes "use-vc") settings
  pub no_aaaa : plan.no_aaaa ≡ has_option (codes "no-aaaa") settings

-- by some resolver configuration, with the environment's changes; name servers are asked for a name of multicast DNS
-- only if the search list has a domain in local
abbrev pub IsPlanFor : Choice → Environment → Target → QueryPlan → Type 0
IsPlanFor choice environment (targets.Name name) plan =
    (file : List ℕ) × IsPlan (string_bytes name) (amended environment file) choice plan
IsPlanFor choice environment (targets.Multicast name) plan =
    (file : List ℕ) × (list_any is_of_local (search_in (amended environment file)) ≡ true)
    × IsPlan (string_bytes name) (amended environment file) choice plan
IsPlanFor choice environment other plan = ⊥
