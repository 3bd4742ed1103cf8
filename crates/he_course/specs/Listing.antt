-- The place of an attempt's address in the interlaced list from which it is taken, and whose turn it is there (RFC
-- 8305 section 4).
use Rattle.std.specs.Prelude.{ℕ, ◌+◌, ◌-◌, ◌&&◌, if◌then◌else◌, Bool, false, List, [], ◌∷◌, length, nat_lt, slice_get}
use Rattle.std.specs.Bool.{beq}
use Rattle.std.specs.Option.{option_map_or}
use Rattle.he_addr.specs.declared.ip.Ip.{Ip}
use Rattle.he_addr.specs.Ip.{is_v6, same_ip}
use Rattle.he_plan.specs.Attempts.{order_at}
use Rattle.he_timeline.specs.Race.{Race}
use Rattle.he_course.specs.declared.listing.Listed.{Listed}
use Rattle.he_course.specs.declared.listing.Turn.{Turn}
use Rattle.he_course.specs.declared.listing.Turn.TheVariants.{Leads, InTurn, RunOut}

-- the place of an address in a list; the list's length if it is not there
abbrev pub place_in : Ip → List Ip → ℕ
place_in ip [] = 0
place_in ip (first ∷ more) = if same_ip first ip then 0 else place_in ip more + 1

-- the address at the place is an IPv6 address
abbrev pub is_v6_at : List Ip → ℕ → Bool
is_v6_at ips place = option_map_or is_v6 (slice_get ips place) false

-- whose turn it is at a place: the leading family, for its first `count` addresses; else a family after an address of
-- the other one; else the other one has run out
abbrev pub turn_at : ℕ → List Ip → ℕ → Turn
turn_at count ips place =
    if nat_lt place count && beq (is_v6_at ips 0) (is_v6_at ips place) then Leads
    else (if beq (is_v6_at ips (place - 1)) (is_v6_at ips place) then RunOut else InTurn)

abbrev pub listed_in : ℕ → List Ip → Ip → Listed
listed_in count ips ip =
    record { place = place_in ip ips; count = length ips; turn = turn_at count ips (place_in ip ips) }

-- an attempt at t: in the interlaced list of all addresses received by then, tried ones included
abbrev pub listed_at : Race → ℕ → Ip → Listed
listed_at race t ip = listed_in race.settings.count (order_at race t) ip
