-- /proc/net/route: a heading, then one line for each IPv4 route of the main table, with eleven fields: the
-- interface's name, destination, gateway and flags in hexadecimal, two counts, the metric in decimal, the mask in
-- hexadecimal, and three more numbers. The four bytes of an address are printed as a little-endian number.
use Rattle.std.specs.Prelude.{ℕ, ◌||◌, codes, List, Option, Some}
use Rattle.std.specs.Int.{swap_bytes, w32}
use Rattle.std.specs.Str.{bytes_eq}
use Rattle.he_addr.specs.Reading.{◌>>=◌, number_in}
use Rattle.he_kernel.specs.declared.ipv4_line.V4Line.{V4Line}
use Rattle.he_kernel.specs.declared.ipv4_line.TheConstants.{REJECT}
use Rattle.he_kernel.specs.Hex.{has, hex_field}
use Rattle.he_kernel.specs.Parts.{field_of}

unfoldable pub v4_field : ℕ → List ℕ → Option ℕ
v4_field place line = do
  number ← hex_field 8 place line
  Some (swap_bytes w32 number)

-- The numbers of a line. An unreachable or prohibited route has a flag; those and blackhole routes have the interface
-- `*`.
unfoldable pub v4_line : List ℕ → Option V4Line
v4_line line = do
  name ← field_of 0 line
  destination ← v4_field 1 line
  gateway ← v4_field 2 line
  flags ← hex_field 8 3 line
  text ← field_of 6 line
  metric ← number_in text
  mask ← v4_field 7 line
  Some (record {
    destination = destination;
    gateway = gateway;
    nowhere = has flags REJECT || bytes_eq name (codes "*");
    metric = metric;
    mask = mask;
  })
