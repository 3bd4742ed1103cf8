-- A connection attempt in progress: the event that it waits for, and its destination.
use Rattle.std.specs.Prelude.{ℕ, ◌*◌, ◌^◌, ◌≡◌, Bool, Option, Some, None, Result, Ok, Err, if◌then◌else◌}
use Rattle.std.specs.Net.Addr.{IsIpv4OfBits, IsIpv6OfBits}
use Rattle.std.specs.Net.Socket.{socket_ip, socket_port, socket_scope_id}
use Rattle.std.specs.declared.io.Error.{Error}
use Rattle.std.specs.declared.net.ip_addr.IpAddr.{IpAddr}
use Rattle.std.specs.declared.net.ip_addr.IpAddr.TheVariants as system
use Rattle.std.specs.declared.net.socket_addr.SocketAddr.{SocketAddr}
use Rattle.tokio.specs.Net.{stream_writable}
use Rattle.he_addr.specs.Bits.{agrees}
use Rattle.he_addr.specs.declared.ip.Ip.{Ip}
use Rattle.he_addr.specs.declared.ip.Ip.TheVariants.{V4, V6}
use Rattle.he_live.specs.declared.dialed.Dialed.{Dialed}
use Rattle.he_live.specs.declared.dialing.Dialing.{Dialing}
use Rattle.he_live.specs.declared.endpoint.Endpoint.{Endpoint}

-- it waits until its socket is writable; after its answer it waits for nothing
abbrev pub dial_needs : Option (Result Dialing Error) → ℕ → Type 0
dial_needs (Some (Ok dialing)) source = source ≡ stream_writable dialing.watched
dial_needs (Some (Err error)) source = ⊥
dial_needs None source = ⊥

-- the connection that it may give was made to its own socket address
abbrev pub DialsTo : Option (Result Dialing Error) → Dialed → Type 0
DialsTo (Some (Ok dialing)) dialed = dialed.to ≡ dialing.to
DialsTo (Some (Err error)) dialed = ⊥
DialsTo None dialed = ⊥

-- the address as std represents it
abbrev pub IsAddressOf : Ip → IpAddr → Type 0
IsAddressOf (V4 bits) (system.V4 address) = IsIpv4OfBits address bits
IsAddressOf (V6 bits) (system.V6 address) = IsIpv6OfBits address bits
IsAddressOf ip address = ⊥

-- the port, without an interface
abbrev pub at_port : ℕ → Endpoint
at_port port = record { port = port; scope = 0 }

-- fe80::/10 (RFC 4291 section 2.5.6)
abbrev pub is_on_link : ℕ → Bool
is_on_link bits = agrees 128 bits (0xfe80 * 2 ^ 112) 10

-- the interface for an address: only a link-local IPv6 address has one (RFC 4007 section 6)
abbrev pub scope_with : ℕ → Ip → ℕ
scope_with scope (V4 bits) = 0
scope_with scope (V6 bits) = if is_on_link bits then scope else 0

-- the address, the port and the interface as std represents them
abbrev pub IsSocketOf : Ip → Endpoint → SocketAddr → Type 0
IsSocketOf ip to socket =
    IsAddressOf ip (socket_ip socket) × (socket_port socket ≡ to.port)
    × (socket_scope_id socket ≡ scope_with to.scope ip)

-- the connection goes to the address at the endpoint's port; a link-local IPv6 address is reached over the endpoint's
-- interface
abbrev pub goes_to : Endpoint → Ip → Dialed → Type 0
goes_to to ip dialed = IsSocketOf ip to dialed.to
