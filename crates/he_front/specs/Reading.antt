-- Mirrors the code: the results of the reader of a tunnel's target, as functions on lists. `Authority` defines the
-- targets.
use Rattle.std.specs.Prelude.{ℕ, ◌&&◌, ◌==◌, List, Option, Some, None, drop, nat_le, nat_lt, slice_index, length, if◌then◌else◌}
use Rattle.std.specs.Option.{option_map_or}
use Rattle.he_addr.specs.declared.ip.Family.TheVariants as families
use Rattle.he_addr.specs.Reading.{◌>>=◌, cut_in, ip_of_in, number_in}
use Rattle.he_front.specs.Authority.{is_name}

-- the text after a leading mark
unfoldable pub after : ℕ → List ℕ → Option (List ℕ)
after mark text = if nat_lt 0 (length text) && slice_index text 0 == mark then Some (drop 1 text) else None

unfoldable pub port_in : List ℕ → Option ℕ
port_in text = do
  number ← number_in text
  if nat_le 1 number && nat_le number 65535 then Some number else None

-- a name or an IPv4 address, a colon and a port
unfoldable pub named_in : List ℕ → Option (List ℕ × ℕ)
named_in text = do
  cut ← cut_in 58 text
  port ← port_in cut.1
  if is_name cut.0 then Some (cut.0, port) else None

-- the text after an opening bracket: an IPv6 address, a closing bracket, a colon and a port
unfoldable pub bracketed_in : List ℕ → Option (List ℕ × ℕ)
bracketed_in text = do
  cut ← cut_in 93 text
  ip ← ip_of_in families.V6 cut.0
  rest ← after 58 cut.1
  port ← port_in rest
  Some (cut.0, port)

unfoldable pub authority_in : List ℕ → Option (List ℕ × ℕ)
authority_in text = option_map_or bracketed_in (after 91 text) (named_in text)
