-- The port that a text names: a number, or a service of a services file (services(5)). A line of the file has a
-- service, its port and protocol, and its aliases.
use Rattle.std.specs.Prelude.{◌≡◌, ◌==◌, ℕ, ◌&&◌, ◌⊎◌, Bool, true, false, List, [], ◌∷◌, Option, Some, None, codes, drop, length, nat_le, not, position, if◌then◌else◌}
use Rattle.std.specs.Char.{is_ascii_digit}
use Rattle.std.specs.List.{filter_map, list_all, list_any}
use Rattle.std.specs.Option.{option_map_or}
use Rattle.std.specs.Str.{bytes_eq}
use Rattle.he_addr.specs.Reading.{◌>>=◌, cut_in, number_in}
use Rattle.he_names.specs.declared.ports.PortFault.{PortFault}
use Rattle.he_names.specs.declared.ports.PortFault.TheVariants as faults
use Rattle.he_names.specs.Fields.{fields_of, lines_of}
use Rattle.he_names.specs.Hosts.{uncommented}

-- the digits without leading zeros
abbrev pub without_zeros : List ℕ → List ℕ
without_zeros digits = option_map_or (λ at. drop at digits) (position (λ byte. not (byte == 48)) digits) []

-- a number from 1 to 65535
unfoldable pub port_in : List ℕ → Option ℕ
port_in digits = do
  number ← number_in (without_zeros digits)
  if nat_le 1 number && nat_le number 65535 then Some number else None

-- PORT/tcp
unfoldable pub tcp_port : List ℕ → Option ℕ
tcp_port field = do
  cut ← cut_in 47 field
  if bytes_eq cut.1 (codes "tcp") then port_in cut.0 else None

-- the port over TCP that a line's fields give the service
abbrev pub port_given : List ℕ → List (List ℕ) → Option ℕ
port_given service (name ∷ port ∷ names) =
    if list_any (bytes_eq service) (name ∷ names) then tcp_port port else None
port_given service other = None

unfoldable pub line_port : List ℕ → List ℕ → Option ℕ
line_port service line = port_given service (fields_of (uncommented line))

-- the ports that the file gives the service, line by line
abbrev pub ports_of : List ℕ → List ℕ → List ℕ
ports_of service services = filter_map (line_port service) (lines_of services)

-- the text without a leading plus sign (strtoul(3), as getaddrinfo(3) reads a port)
abbrev pub unsigned : List ℕ → List ℕ
unsigned [] = []
unsigned (byte ∷ text) = if byte == 43 then text else byte ∷ text

abbrev pub is_decimal : List ℕ → Bool
is_decimal text = nat_le 1 (length (unsigned text)) && list_all is_ascii_digit (unsigned text)

-- a text of digits, with or without a sign, is a number; any other is a service, and its port is the first that the
-- file gives
abbrev pub MeansPort : List ℕ → List ℕ → ℕ → Type 0
MeansPort services text port =
    ((is_decimal text ≡ true) × (port_in (unsigned text) ≡ Some port))
    ⊎ ((is_decimal text ≡ false) × (more : List ℕ) × (ports_of text services ≡ port ∷ more))

abbrev pub IsNoPort : List ℕ → List ℕ → PortFault → Type 0
IsNoPort services text faults.Range = (is_decimal text ≡ true) × (port_in (unsigned text) ≡ None)
IsNoPort services text faults.Unknown = (is_decimal text ≡ false) × (ports_of text services ≡ [])
IsNoPort services text faults.Memory = Unit {0}
