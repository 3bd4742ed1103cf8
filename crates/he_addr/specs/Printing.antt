-- Mirrors the code: the printed texts as functions, which the writers append. `Printed` defines them.
use Rattle.std.specs.Prelude.{ℕ, ◌+◌, ◌-◌, ◌%◌, ◌^◌, ◌==◌, ◌&&◌, Bool, List, [], ◌∷◌, ◌++◌, decimal, nat_le, if◌then◌else◌}
use Rattle.he_addr.specs.declared.ip.Ip.{Ip}
use Rattle.he_addr.specs.declared.ip.Ip.TheVariants.{V4, V6}
use Rattle.he_addr.specs.declared.printing.ZeroGroups.{ZeroGroups}
use Rattle.he_addr.specs.Prefix.{PrefixBits, is_inside_mapped}
use Rattle.he_addr.specs.Printed.{dotted, groups_of, joined, shortened}

-- the number of leading zero groups
abbrev pub zeros : List ℕ → ℕ
zeros [] = 0
zeros (g ∷ gs) = if g == 0 then zeros gs + 1 else 0

-- the longer of a run that begins here and the longest one after it; the first of two equally long ones
abbrev pub longer : ℕ → ZeroGroups → ZeroGroups
longer here behind =
    if nat_le behind.len here then record { start = 0; len = here }
    else record { start = behind.start + 1; len = behind.len }

-- the first of the longest runs of zero groups
abbrev pub longest : List ℕ → ZeroGroups
longest [] = record { start = 0; len = 0 }
longest (g ∷ gs) = longer (zeros (g ∷ gs)) (longest gs)

abbrev pub printed_groups : List ℕ → ZeroGroups → List ℕ
printed_groups groups run = if nat_le 2 run.len then shortened groups run.start run.len else joined groups

unfoldable pub printed_v6 : ℕ → List ℕ
printed_v6 n = printed_groups (groups_of n) (longest (groups_of n))

-- the text of an address
abbrev pub printed : Ip → List ℕ
printed (V4 n) = dotted n
printed (V6 n) = printed_v6 n

-- the text of an address and a prefix length
abbrev pub source_text : Ip → ℕ → List ℕ
source_text ip len = printed ip ++ 47 ∷ decimal len

-- the text of a prefix, in IPv4 form if `is_dotted` holds and the prefix is one of IPv4 addresses
abbrev pub prefix_text : Bool → PrefixBits → List ℕ
prefix_text is_dotted prefix =
    if is_dotted && is_inside_mapped prefix then source_text (V4 (prefix.bits % 2 ^ 32)) (prefix.len - 96)
    else source_text (V6 prefix.bits) prefix.len
