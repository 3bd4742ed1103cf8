-- The verdict on a round.
use Rattle.std.specs.Prelude.{ℕ, ◌&&◌, Bool, true, if◌then◌else◌, List, count_by, length, nat_eq, nat_lt, take, Option, Some, None}
use Rattle.std.specs.List.{list_any}
use Rattle.he_addr.specs.declared.ip.Family.{Family}
use Rattle.he_addr.specs.declared.ip.Family.TheVariants as families
use Rattle.he_addr.specs.declared.ip.Ip.{Ip}
use Rattle.he_addr.specs.Ip.{same_ip}
use Rattle.he_course.specs.Course.{lost}
use Rattle.he_course.specs.declared.course.Course.{Course}
use Rattle.he_plan.specs.declared.transcript.Line.{Line}
use Rattle.he_timeline.specs.Timeline.{is_of}
use Rattle.he_probing.specs.declared.rows.AddressRow.{AddressRow}
use Rattle.he_probing.specs.declared.verdict.Verdict.{Verdict}
use Rattle.he_probing.specs.declared.verdict.Verdict.TheVariants as verdicts
use Rattle.he_probing.specs.Rows.{has_connected, has_failed}

-- a client loses time; if it makes no connection, it does
abbrev pub loses : Option ℕ → Bool
loses None = true
loses (Some ticks) = nat_lt 0 ticks

-- the attempts that a client makes before the one that wins; all if none wins
abbrev pub waited_by : {A : Type 0} → Course A → Option Line → List Line
waited_by course None = course.transcript.lines
waited_by course (Some line) = take line.place course.transcript.lines

abbrev pub waited_for : {A : Type 0} → Course A → List Line
waited_for course = waited_by course course.ended.winner

-- the address is among the rows, and didn't connect
abbrev pub has_failed_at : List AddressRow → Ip → Bool
has_failed_at rows ip = list_any (λ row. same_ip row.ip ip && has_failed row) rows

-- a client waits for an address of the family that doesn't connect
abbrev pub delays : {A : Type 0} → List AddressRow → Course A → Family → Bool
delays rows course family =
    loses (lost course) && list_any (λ line. is_of family line.ip && has_failed_at rows line.ip) (waited_for course)

abbrev pub broken : List AddressRow → Family → Verdict
broken rows family =
    verdicts.Broken family (count_by (λ row. is_of family row.ip && has_failed row) rows)
    (count_by (λ row. is_of family row.ip) rows)

-- the first verdict that fits
abbrev pub verdict_of : {A : Type 0} → List AddressRow → Course A → Verdict
verdict_of rows course =
    if nat_eq (count_by has_connected rows) 0 then verdicts.NothingConnects
    else if delays rows course families.V6 then broken rows families.V6
    else if delays rows course families.V4 then broken rows families.V4
    else if nat_lt 0 (count_by has_failed rows) then verdicts.SomeFail (count_by has_failed rows) (length rows)
    else verdicts.AllFine
