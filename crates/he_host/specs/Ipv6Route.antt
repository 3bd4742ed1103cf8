-- /proc/net/ipv6_route: one line for each IPv6 route of every table, with ten fields: destination and its prefix
-- length, source and its length, next hop, metric, two counts and flags, all in hexadecimal, and the interface's
-- name.
use Rattle.std.specs.Prelude.{ℕ, ◌/◌, ◌^◌, ◌==◌, ◌&&◌, ◌||◌, Bool, false, not, List, Option, Some, None, Result, Ok, Err, if◌then◌else◌}
use Rattle.he_addr.specs.Prefix.{PrefixBits}
use Rattle.he_addr.specs.Reading.{◌>>=◌, checked}
use Rattle.he_host.specs.declared.found.Metered.{Metered}
use Rattle.he_kernel.specs.declared.link.Link.{Link}
use Rattle.he_host.specs.declared.ipv6_route.RouteLine.{RouteLine}
use Rattle.he_host.specs.declared.ipv6_route.TheConstants.{ANYCAST, CACHED, IN_USE, LAST_METRIC, LOCAL, NETWORK_METRIC, REJECT}
use Rattle.he_kernel.specs.declared.why.Why.{Why}
use Rattle.he_kernel.specs.declared.why.Why.TheVariants as whys
use Rattle.he_kernel.specs.Hex.{has, hex_field}

-- the numbers of a line
unfoldable pub route_line : List ℕ → Option RouteLine
route_line line = do
  bits ← hex_field 32 0 line
  len ← hex_field 2 1 line
  metric ← hex_field 8 5 line
  flags ← hex_field 8 8 line
  Some (record { bits = bits; len = len; metric = metric; flags = flags })

abbrev pub is_loopback : Option Link → Bool
is_loopback None = false
is_loopback (Some link) = link.loopback

-- An internal route of the kernel: to an address of this machine that isn't on the loopback interface; to an anycast
-- address; a cached one; the unreachable one at the end of each table; one to a network of the loopback interface,
-- which reaches only the host's own address; one not in use; one to multicast, ff00::/8.
unfoldable pub is_internal : RouteLine → Option Link → Bool
is_internal read link =
    (has read.flags LOCAL && not (is_loopback link))
    || has read.flags ANYCAST
    || has read.flags CACHED
    || (has read.flags REJECT && (read.metric == LAST_METRIC || read.metric == NETWORK_METRIC))
    || (not (has read.flags REJECT) && not (has read.flags IN_USE))
    || read.bits / 2 ^ 120 == 255

abbrev pub route_on : RouteLine → PrefixBits → Option Link → Result Metered Why
route_on read prefix None = Err whys.Down
route_on read prefix (Some link) =
    Ok (record {
      route = record { prefix = prefix; interface = link.number; tunnel = link.tunnel };
      metric = read.metric;
      connected = false;
      carrier = link.carrier;
    })

-- the route to a prefix, by the line's flags; none for one that leads nowhere
abbrev pub route_to : RouteLine → Option Link → Option PrefixBits → Result Metered Why
route_to read link None = Err whys.Unclear
route_to read link (Some prefix) =
    if is_internal read link then Err whys.Internal
    else (if has read.flags REJECT then Err whys.Unreachable
    else route_on read prefix link)

-- the route of a line, by its interface
unfoldable pub route_of : RouteLine → Option Link → Result Metered Why
route_of read link = route_to read link (checked (record { bits = read.bits; len = read.len }))
