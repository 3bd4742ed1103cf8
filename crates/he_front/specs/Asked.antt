-- The target of a SOCKS request: a host, as a text, and a port.
use Rattle.std.specs.Prelude.{ℕ, ◌&&◌, ◌==◌, Bool, List, Option, Some, None, length, nat_le, if◌then◌else◌}
use Rattle.std.specs.Char.{is_ascii_graphic}
use Rattle.std.specs.List.{list_all}
use Rattle.std.specs.Option.{option_map}
use Rattle.he_addr.specs.Printing.{printed}
use Rattle.he_front.specs.declared.socks.Request.{Request}
use Rattle.he_front.specs.declared.socks.Target.{Target}
use Rattle.he_front.specs.declared.socks.Target.TheVariants as targets

-- a name is 1 to 255 printable ASCII octets without spaces
abbrev pub is_printable : List ℕ → Bool
is_printable name = (nat_le 1 (length name) && nat_le (length name) 255) && list_all is_ascii_graphic name

-- the text of the host: that of an address (RFC 5952 section 4), or the name itself
abbrev pub host_in : Target → Option (List ℕ)
host_in (targets.Address ip) = Some (printed ip)
host_in (targets.Name name) = if is_printable name.now then Some name.now else None

-- the host and the port, which isn't 0
abbrev pub asked_in : Request → Option (List ℕ × ℕ)
asked_in request =
    if request.port == 0 then None else option_map (λ host. (host, request.port)) (host_in request.target)
