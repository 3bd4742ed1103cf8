-- The likely meaning of a word that is in no text of races, and of an input that is no such text.
use Rattle.std.specs.Prelude.{ℕ, ◌==◌, ◌&&◌, ◌||◌, Bool, List, [], ◌∷◌, if◌then◌else◌, codes, Option, Some, None}
use Rattle.std.specs.Char.{is_ascii_alphabetic, is_ascii_alphanumeric, is_ascii_digit, is_ascii_uppercase}
use Rattle.std.specs.List.{ends_with, list_all, list_any, starts_with}
use Rattle.std.specs.Option.{option_or}
use Rattle.std.specs.Str.{bytes_eq}
use Rattle.he_faults.specs.declared.meant.Meant.{Meant}
use Rattle.he_faults.specs.declared.meant.Meant.TheVariants.{Comment, Tab, Capitals, Zone, Brackets, Comma, Name, DefaultRoute, IpOutput, Device, Unit, Sign, Packed, Wide, Capture, Json}

abbrev pub has : ℕ → List ℕ → Bool
has byte word = list_any (λ other. other == byte) word

abbrev pub begins : List ℕ → List ℕ → Bool
begins first word = starts_with (λ a b. a == b) word first

abbrev pub ends : List ℕ → List ℕ → Bool
ends last word = ends_with (λ a b. a == b) word last

-- a word that begins with #, one with a tab in it, one with capitals
unfoldable pub as_mark : List ℕ → Option Meant
as_mark word =
    if begins (codes "#") word then Some Comment
    else if has 9 word then Some Tab
    else if list_all is_ascii_alphabetic word && list_any is_ascii_uppercase word then Some Capitals
    else None

-- `default`, the words of `ip` around addresses, and names of interfaces: lo, eth0, enp3s0, wlan0, wg0, tun0
unfoldable pub is_ip_word : List ℕ → Bool
is_ip_word word =
    bytes_eq word (codes "via") || (bytes_eq word (codes "dev") || (bytes_eq word (codes "proto")
    || (bytes_eq word (codes "scope") || (bytes_eq word (codes "inet") || bytes_eq word (codes "inet6")))))

unfoldable pub is_device : List ℕ → Bool
is_device word =
    bytes_eq word (codes "lo") || (list_any is_ascii_digit word
    && (begins (codes "eth") word
    || (begins (codes "en") word
    || (begins (codes "wl") word || (begins (codes "wg") word || begins (codes "tun") word)))))

unfoldable pub as_ip_prints : List ℕ → Option Meant
as_ip_prints word =
    if bytes_eq word (codes "default") then Some DefaultRoute
    else if is_ip_word word then Some IpOutput
    else if is_device word then Some Device
    else None

-- 25ms, 2.5s, 1m30s; -25, +25
abbrev pub is_of_time : ℕ → Bool
is_of_time byte = is_ascii_digit byte || has byte (codes ".ms")

unfoldable pub as_number : List ℕ → Option Meant
as_number word =
    if ends (codes "s") word && list_all is_of_time word then Some Unit
    else if (begins (codes "-") word || begins (codes "+") word) && list_any is_ascii_digit word then Some Sign
    else None

-- www.example.org, localhost
abbrev pub is_of_name : ℕ → Bool
is_of_name byte = is_ascii_alphanumeric byte || has byte (codes "-_.")

unfoldable pub is_name : List ℕ → Bool
is_name word =
    bytes_eq word (codes "localhost")
    || (has 46 word && (list_any is_ascii_alphabetic word && list_all is_of_name word))

-- fe80::1%eth0, [2001:db8::1]:443, 192.0.2.1,192.0.2.2, a name
unfoldable pub as_address : List ℕ → Option Meant
as_address word =
    if has 37 word then Some Zone
    else if has 91 word || has 93 word then Some Brackets
    else if has 44 word then Some Comma
    else if is_name word then Some Name
    else None

unfoldable pub meant_of : List ℕ → Option Meant
meant_of word = option_or (option_or (option_or (as_mark word) (as_ip_prints word)) (as_number word)) (as_address word)

-- the first bytes of a packet capture: libpcap's, of both byte orders, with microseconds or nanoseconds; pcapng's
unfoldable pub is_capture : List ℕ → Bool
is_capture input =
    begins (0xD4 ∷ 0xC3 ∷ 0xB2 ∷ 0xA1 ∷ []) input
    || (begins (0xA1 ∷ 0xB2 ∷ 0xC3 ∷ 0xD4 ∷ []) input
    || (begins (0x4D ∷ 0x3C ∷ 0xB2 ∷ 0xA1 ∷ []) input
    || (begins (0xA1 ∷ 0xB2 ∷ 0x3C ∷ 0x4D ∷ []) input || begins (0x0A ∷ 0x0D ∷ 0x0D ∷ 0x0A ∷ []) input)))

-- the first bytes of gzip, of zstd and of xz; of UTF-16, with its mark or with the first letter of `race`
unfoldable pub input_meant : List ℕ → Option Meant
input_meant input =
    if begins (0x1F ∷ 0x8B ∷ []) input
    || (begins (0x28 ∷ 0xB5 ∷ 0x2F ∷ 0xFD ∷ []) input || begins (0xFD ∷ 0x37 ∷ 0x7A ∷ 0x58 ∷ 0x5A ∷ 0 ∷ []) input)
    then Some Packed
    else if begins (0xFF ∷ 0xFE ∷ []) input
    || (begins (0xFE ∷ 0xFF ∷ []) input || (begins (114 ∷ 0 ∷ []) input || begins (0 ∷ 114 ∷ []) input))
    then Some Wide
    else if is_capture input then Some Capture
    else if begins (codes "{") input || begins (codes "[") input then Some Json
    else None
