-- The port that a word names: a number, or a service by its name.
use Rattle.std.specs.Prelude.{◌≡◌, ◌≤◌, ◌==◌, ◌&&◌, ◌||◌, ℕ, Bool, true, false, not, List, [], ◌∷◌, Some, codes, drop, if◌then◌else◌, length, nat_le, position}
use Rattle.std.specs.Char.{is_ascii_alphabetic, is_ascii_alphanumeric}
use Rattle.std.specs.List.{list_all, list_any}
use Rattle.std.specs.Option.{option_map_or}
use Rattle.clap.specs.Matches.{first_value}
use Rattle.clap.specs.declared.parser.matches.Found.{Found}
use Rattle.he_addr.specs.Reading.{number_in}
use Rattle.he_options.specs.declared.limits.TheConstants.{LEAST_PORT, MOST_PORT, MOST_SERVICE}
use Rattle.he_options.specs.declared.port.Port.{Port}
use Rattle.he_options.specs.declared.port.Port.TheVariants as ports

-- a letter, a digit or a hyphen
abbrev pub is_sign : ℕ → Bool
is_sign byte = is_ascii_alphanumeric byte || byte == 45

-- no hyphen stands at the end, or after another, or at the front after one
abbrev pub are_apart : Bool → List ℕ → Bool
are_apart behind [] = not behind
are_apart behind (byte ∷ more) = if behind && byte == 45 then false else are_apart (byte == 45) more

-- the name of a service (RFC 6335 section 5.1): 1 to 15 letters, digits and hyphens, a letter among them, and each
-- hyphen between two of the others
abbrev pub is_service : List ℕ → Bool
is_service name =
    nat_le (length name) MOST_SERVICE
    && (list_all is_sign name && (list_any is_ascii_alphabetic name && are_apart true name))

-- a number in its range, or such a name
abbrev pub IsPort : Port → Type 0
IsPort (ports.Number number) = (LEAST_PORT ≤ number) × (number ≤ MOST_PORT)
IsPort (ports.Service name) = is_service name.now ≡ true

-- the digits after the zeros that may begin them
abbrev pub without_zeros : List ℕ → List ℕ
without_zeros digits = option_map_or (λ at. drop at digits) (position (λ byte. not (byte == 48)) digits) []

-- the digits of a number, as strtoul(3) reads it: a plus sign and zeros may begin it
abbrev pub port_digits : List ℕ → List ℕ
port_digits [] = []
port_digits (byte ∷ word) = if byte == 43 then without_zeros word else without_zeros (byte ∷ word)

-- a word that is a number says that port, any other is the name
abbrev pub SaysPort : List ℕ → Port → Type 0
SaysPort word (ports.Number number) = number_in (port_digits word) ≡ Some number
SaysPort word (ports.Service name) = name.now ≡ word

-- the port of the line
abbrev pub NamesPort : Found → Port → Type 0
NamesPort found port = (word : List ℕ) × (first_value found (codes "port") ≡ Some word) × SaysPort word port
