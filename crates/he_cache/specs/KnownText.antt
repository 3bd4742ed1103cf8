-- The text of a history.
use Rattle.std.specs.Prelude.{ℕ, ◌≡◌, ◌^◌, ◌<◌, ◌++◌, ◌==◌, List, [], ◌∷◌, Option, Some, None, decimal}
use Rattle.std.specs.List.{slice_split}
use Rattle.he_addr.specs.Ip.{InRange}
use Rattle.he_addr.specs.Printing.{printed}
use Rattle.he_addr.specs.Reading.{ip_in, number_in}
use Rattle.he_addr.specs.declared.ip.Ip.{Ip}
use Rattle.he_cache.specs.declared.history.Seen.{Seen}

-- address, source, milliseconds and second, separated by single spaces
abbrev pub line_of : Seen → List ℕ
line_of seen =
    printed seen.ip ++ (32 ∷ (printed seen.source ++ (32 ∷ (decimal seen.rtt ++ (32 ∷ decimal seen.at)))))

-- the entry of four fields, if each is an address or a number
abbrev pub seen_by : Option Ip → Option Ip → Option ℕ → Option ℕ → Option Seen
seen_by (Some ip) (Some source) (Some rtt) (Some at) =
    Some (record { ip = ip; source = source; rtt = rtt; at = at })
seen_by ip source rtt at = None

abbrev pub seen_of_fields : List (List ℕ) → Option Seen
seen_of_fields (ip ∷ source ∷ rtt ∷ at ∷ []) = seen_by (ip_in ip) (ip_in source) (number_in rtt) (number_in at)
seen_of_fields fields = None

-- the entry of a line
unfoldable pub seen_in : List ℕ → Option Seen
seen_in line = seen_of_fields (slice_split (λ b. b == 32) line)

-- the written line reads back as its entry, if the numbers are below 10^10
abbrev pub ReadsBack : Type 0
ReadsBack = (seen : Seen) → InRange seen.ip → InRange seen.source → seen.rtt < 10 ^ 10 → seen.at < 10 ^ 10
    → seen_in (line_of seen) ≡ Some seen
