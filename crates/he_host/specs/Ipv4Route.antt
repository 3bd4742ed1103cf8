-- The IPv4 routes of the main table, by the lines of /proc/net/route.
use Rattle.std.specs.Prelude.{ℕ, ◌+◌, ◌-◌, ◌^◌, ◌==◌, Option, Some, None, Result, Ok, Err, if◌then◌else◌}
use Rattle.he_addr.specs.declared.ip.Ip.TheVariants.{V4}
use Rattle.he_addr.specs.Ip.{mapped_of}
use Rattle.he_addr.specs.Prefix.{PrefixBits, common_of}
use Rattle.he_addr.specs.Reading.{◌>>=◌, checked}
use Rattle.he_host.specs.declared.found.Metered.{Metered}
use Rattle.he_kernel.specs.declared.ipv4_line.V4Line.{V4Line}
use Rattle.he_kernel.specs.declared.link.Link.{Link}
use Rattle.he_kernel.specs.declared.why.Why.{Why}
use Rattle.he_kernel.specs.declared.why.Why.TheVariants as whys

-- the number of leading ones of a mask, after the 96 bits of mapped addresses
abbrev pub mask_len : ℕ → ℕ
mask_len mask = 96 + common_of (V4 mask) 32 (V4 (2 ^ 32 - 1))

-- the prefix of a network and its mask; none if a bit is set after the mask's leading ones
unfoldable pub masked : ℕ → ℕ → Option PrefixBits
masked number mask = do
  whole ← checked (record { bits = mapped_of (V4 mask); len = mask_len mask })
  checked (record { bits = mapped_of (V4 number); len = mask_len mask })

abbrev pub v4_route_on : V4Line → PrefixBits → Option Link → Result Metered Why
v4_route_on read prefix None = Err whys.Down
v4_route_on read prefix (Some link) =
    Ok (record {
      route = record { prefix = prefix; interface = link.number; tunnel = link.tunnel };
      metric = read.metric;
      connected = read.gateway == 0;
      carrier = link.carrier;
    })

-- the route to a prefix, by the line's flags; none for one that leads nowhere
abbrev pub v4_route_to : V4Line → Option Link → Option PrefixBits → Result Metered Why
v4_route_to read link None = Err whys.Unclear
v4_route_to read link (Some prefix) =
    if read.nowhere then Err whys.Unreachable else v4_route_on read prefix link

-- the route of a line, by its interface; without a gateway it is connected
unfoldable pub v4_route : V4Line → Option Link → Result Metered Why
v4_route read link = v4_route_to read link (masked read.destination read.mask)
