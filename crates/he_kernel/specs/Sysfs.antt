-- The files of an interface in /sys/class/net: `ifindex`, `carrier` and `type` in decimal, `flags` in hexadecimal
-- after 0x, each with a newline.
use Rattle.std.specs.Prelude.{ℕ, ◌^◌, ◌==◌, ◌||◌, Bool, List, [], ◌∷◌, drop, length, min, nat_lt, if◌then◌else◌}
use Rattle.std.specs.Option.{unwrap_or}
use Rattle.he_addr.specs.Reading.{number_in}
use Rattle.he_kernel.specs.declared.link.Link.{Link}
use Rattle.he_kernel.specs.declared.sysfs.TheConstants.{GRE, IP6_GRE, IP6_TUNNEL, IPIP, LOOPBACK, SIT, TUN, UP}
use Rattle.he_kernel.specs.declared.parts.Cut.TheVariants.{Lines}
use Rattle.he_kernel.specs.Hex.{has, hex_in}
use Rattle.he_kernel.specs.Parts.{parts_of}

abbrev pub first_of : List ℕ → List (List ℕ) → List ℕ
first_of text [] = text
first_of text (line ∷ lines) = line

-- the first line of a text
abbrev pub first_line : List ℕ → List ℕ
first_line text = first_of text (parts_of Lines text)

-- the number in a text like 0x1003, after the first two bytes; 0 for any other text
abbrev pub flags_of : List ℕ → ℕ
flags_of text = unwrap_or (hex_in 8 (drop (min (length (first_line text)) 2) (first_line text))) 0

-- the decimal number in a text; 0 for any other text
abbrev pub decimal_of : List ℕ → ℕ
decimal_of text = unwrap_or (number_in (first_line text)) 0

-- the index of an interface; 0 if it is above 65535, which a race doesn't support
abbrev pub index_of : List ℕ → ℕ
index_of text = if nat_lt (decimal_of text) (2 ^ 16) then decimal_of text else 0

-- the hardware type (ARPHRD) is of a tunnel
abbrev pub is_tunnel : ℕ → Bool
is_tunnel kind = kind == TUN || kind == IPIP || kind == IP6_TUNNEL || kind == SIT || kind == GRE || kind == IP6_GRE

-- the link by an interface's files: the flags are IFF_UP, 1, and IFF_LOOPBACK, 8
abbrev pub link_from : List ℕ → List ℕ → List ℕ → List ℕ → Link
link_from ifindex flags carrier kind = record {
  number = index_of ifindex;
  up = has (flags_of flags) UP;
  carrier = decimal_of carrier == 1;
  loopback = has (flags_of flags) LOOPBACK;
  tunnel = is_tunnel (decimal_of kind);
}
