-- Where a proxy listens, by the words of the line.
use Rattle.std.specs.Prelude.{◌≡◌, ◌⊎◌, ◌<◌, ◌≤◌, ◌++◌, List, [], ◌∷◌, ℕ, codes, if◌then◌else◌}
use Rattle.std.specs.Net.Grammar.{IsSocketText}
use Rattle.std.specs.Net.Socket.{socket_port}
use Rattle.std.specs.declared.net.socket_addr.SocketAddr.{SocketAddr}
use Rattle.std.specs.declared.net.socket_addr.SocketAddr.TheVariants as sockets
use Rattle.he_addr.specs.Text.{SpellsNumber}
use Rattle.he_options.specs.declared.limits.TheConstants.{LEAST_PORT, MOST_PORT}
use Rattle.he_proxy_request.specs.declared.listen.Listen.{Listen}
use Rattle.he_proxy_request.specs.declared.listen.Listen.TheVariants as listens
use Rattle.he_proxy_request.specs.declared.listen.SixUse.{SixUse}

-- the number of a port, not 0, without leading zeros
abbrev pub SpellsPort : List ℕ → ℕ → Type 0
SpellsPort text port = SpellsNumber text port × (LEAST_PORT ≤ port) × (port ≤ MOST_PORT)

-- a port after these bytes
abbrev pub IsPortAfter : List ℕ → List ℕ → ℕ → Type 0
IsPortAfter front text port = (digits : List ℕ) × (text ≡ front ++ digits) × SpellsPort digits port

-- a text names an address with a port other than 0
abbrev pub NamesAddress : List ℕ → SocketAddr → Type 0
NamesAddress text address = IsSocketText text address × (0 < socket_port address)

abbrev pub NamesNoAddress : List ℕ → Type 0
NamesNoAddress text =
    ((address : SocketAddr) → IsSocketText text address → ⊥)
    ⊎ ((address : SocketAddr) × IsSocketText text address × (socket_port address ≡ 0))

-- a port alone, or after the name
abbrev pub NamesLoopback : List ℕ → ℕ → Type 0
NamesLoopback text port = SpellsPort text port ⊎ IsPortAfter (codes "localhost:") text port

-- a text                         names
-- 127.0.0.1:1080, [::1]:1080     that address
-- 1080, localhost:1080           both loopback addresses at that port
-- :1080                          all addresses at that port
abbrev pub NamesListen : List ℕ → Listen → Type 0
NamesListen text (listens.At address) = NamesAddress text address
NamesListen text (listens.Loopback port) = NamesLoopback text port
NamesListen text (listens.All port) = IsPortAfter (codes ":") text port

-- a text that is in no line of this table
pub record NamesNothing (text : List ℕ) : Type 0 where
  pub address : NamesNoAddress text
  pub loopback : (port : ℕ) → NamesLoopback text port → ⊥
  pub all : (port : ℕ) → IsPortAfter (codes ":") text port → ⊥

-- these octets and this port
abbrev pub v4_at : List ℕ → ℕ → SocketAddr
v4_at octets port = sockets.V4 (record { ip = record { octets = octets }; port = port })

-- these segments and this port, with neither flow information nor a scope
abbrev pub v6_at : List ℕ → ℕ → SocketAddr
v6_at segments port = sockets.V6 (record { ip = record { segments = segments }; port = port; flowinfo = 0; scope_id = 0 })

-- a word                     its addresses                    where no socket is bound to ::1, or none to ::
-- 127.0.0.1:1080             that one                         that one
-- 1080, localhost:1080       127.0.0.1:1080 and [::1]:1080    127.0.0.1:1080
-- :1080                      [::]:1080                        0.0.0.0:1080
abbrev pub addresses_of : SixUse → Listen → List SocketAddr
addresses_of six (listens.At address) = address ∷ []
addresses_of six (listens.Loopback port) =
    v4_at (127 ∷ 0 ∷ 0 ∷ 1 ∷ []) port
    ∷ (if six.loopback then v6_at (0 ∷ 0 ∷ 0 ∷ 0 ∷ 0 ∷ 0 ∷ 0 ∷ 1 ∷ []) port ∷ [] else [])
addresses_of six (listens.All port) =
    (if six.any then v6_at (0 ∷ 0 ∷ 0 ∷ 0 ∷ 0 ∷ 0 ∷ 0 ∷ 0 ∷ []) port else v4_at (0 ∷ 0 ∷ 0 ∷ 0 ∷ []) port) ∷ []
