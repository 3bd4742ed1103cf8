-- The destinations of connections that stay in the event loop.
use Rattle.std.specs.Prelude.{◌≡◌, ℕ, List, Option, Some, None, Result, Ok, Err}
use Rattle.std.specs.declared.io.Error.{Error}
use Rattle.tokio.specs.Net.{stream_writable}
use Rattle.tokio.specs.declared.net.stream.TcpStream.{TcpStream}
use Rattle.he_addr.specs.declared.ip.Ip.{Ip}
use Rattle.he_live.specs.Dials.{IsSocketOf}
use Rattle.he_live.specs.declared.endpoint.Endpoint.{Endpoint}
use Rattle.he_loop.specs.Access.{Reaches}
use Rattle.he_loop.specs.declared.access.Reach.{Reach}
use Rattle.he_loop.specs.declared.dial.Joined.{Joined}

-- the connection was made to the address and the endpoint's port, which the client's races for the host that is asked
-- for may reach by the kernel's answer for this address, as they may the IPv4 host that it embeds
pub record GoesTo (reach : Reach) (asked : List ℕ) (to : Endpoint) (ip : Ip) (joined : Joined) : Type 0 where
  pub socket : IsSocketOf ip to joined.to
  pub answered : joined.known.way.to ≡ ip
  pub reached : Reaches reach asked joined.known to.port

-- a connection attempt waits to be writable
abbrev pub DialNeeds : Option (Result TcpStream Error) → ℕ → Type 0
DialNeeds (Some (Ok stream)) source = source ≡ stream_writable stream
DialNeeds (Some (Err error)) source = ⊥
DialNeeds None source = ⊥
