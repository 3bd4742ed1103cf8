-- The results of a race for the addresses that it tried (RFC 8305 section 4).
use Rattle.std.specs.Prelude.{ℕ, ◌-◌, ◌&&◌, Bool, true, false, nat_le, nat_lt, Option, Some, None}
use Rattle.he_addr.specs.declared.ip.Ip.{Ip}
use Rattle.he_cache.specs.declared.history.Seen.{Seen}
use Rattle.he_plan.specs.declared.transcript.Line.{Line}
use Rattle.he_plan.specs.declared.transcript.Mark.{Mark}
use Rattle.he_plan.specs.declared.transcript.Mark.TheVariants as marks

-- the round trip time is from the winning attempt's start to its connection, from this source
abbrev pub seen_at : Line → Mark → Option Ip → ℕ → Option Seen
seen_at line (marks.Won tick) (Some source) now =
    Some (record { ip = line.ip; source = source; rtt = tick - line.tick; at = now })
seen_at line mark source now = None

abbrev pub seen_by : Line → Option Ip → ℕ → Option Seen
seen_by line source now = seen_at line line.mark source now

-- an attempt that was cancelled after this time means that its address is silent: it waited for the Connection
-- Attempt Delay, and longer than the last connection took
abbrev pub is_silent : ℕ → Seen → ℕ → Bool
is_silent waited seen delay = nat_le delay waited && nat_lt seen.rtt waited

-- the known round trip time is void: the attempt failed, or the address was silent
abbrev pub is_lost_at : Line → Mark → Seen → ℕ → Bool
is_lost_at line (marks.Won tick) seen delay = false
is_lost_at line (marks.Failed tick) seen delay = true
is_lost_at line (marks.Cancelled tick) seen delay = is_silent (tick - line.tick) seen delay

abbrev pub is_lost : Line → Seen → ℕ → Bool
is_lost line seen delay = is_lost_at line line.mark seen delay
