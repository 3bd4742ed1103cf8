-- The address that a client connects to soonest if it tries it at once.
use Rattle.std.specs.Prelude.{ℕ, ◌≡◌, ◌+◌, ◌-◌, ◌^◌, ◌≤◌, if◌then◌else◌, All, Any, List, Option, Some, None, IfSome, min, nat_lt}
use Rattle.he_addr.specs.Ip.{family_of}
use Rattle.he_addr.specs.declared.ip.Ip.{Ip}
use Rattle.he_course.specs.Course.{answer_of}
use Rattle.he_course.specs.declared.course.Course.{Course}
use Rattle.he_course.specs.declared.course.Seen.{Seen}
use Rattle.he_timeline.specs.declared.outcome.Outcome.{Outcome}
use Rattle.he_timeline.specs.declared.outcome.Outcome.TheVariants as outcomes
use Rattle.he_probing.specs.declared.fastest.Fastest.{Fastest}
use Rattle.he_probing.specs.declared.rows.AddressRow.{AddressRow}

-- the tick of a connection of this duration that starts when the answer is seen
abbrev pub after : Option Seen → ℕ → Option ℕ
after None duration = None
after (Some seen) duration = Some (min (seen.tick + duration) (2 ^ 64 - 1))

-- the address at which a connection takes these ticks, if it is faster
abbrev pub faster_of : Option Fastest → Ip → Option ℕ → Option Fastest
faster_of fastest ip None = fastest
faster_of None ip (Some ticks) = Some (record { ip = ip; ticks = ticks })
faster_of (Some fastest) ip (Some ticks) =
    if nat_lt ticks fastest.ticks then Some (record { ip = ip; ticks = ticks }) else Some fastest

module _ {A : Type 0} (course : Course A) where
  abbrev pub takes_by : AddressRow → Option Outcome → Option ℕ
  takes_by row None = None
  takes_by row (Some (outcomes.Fail duration)) = None
  takes_by row (Some (outcomes.Ok duration)) = after (answer_of course (family_of row.ip)) duration

  -- the tick at which the address connects if its attempt starts when its answer is seen
  abbrev pub takes_of : AddressRow → Option ℕ
  takes_of row = takes_by row row.outcome

  -- the row is that of the address, which connects at this tick
  abbrev pub IsAt : Fastest → AddressRow → Type 0
  IsAt fastest row = (row.ip ≡ fastest.ip) × (takes_of row ≡ Some fastest.ticks)

  -- none connects; or one that does, and none does sooner
  abbrev pub IsFastest : List AddressRow → Option Fastest → Type 0
  IsFastest rows None = All (λ row. takes_of row ≡ None) rows
  IsFastest rows (Some fastest) =
      Any (IsAt fastest) rows × All (λ row. IfSome (takes_of row) (λ ticks. fastest.ticks ≤ ticks)) rows
