-- The texts of a round for people.
use Rattle.std.specs.Prelude.{ℕ, ◌++◌, ◌==◌, if◌then◌else◌, List, [], codes, count_by, decimal, length, nat_lt, Option, Some, None}
use Rattle.he_addr.specs.Printing.{printed}
use Rattle.he_addr.specs.declared.ip.Family.{Family}
use Rattle.he_addr.specs.declared.ip.Family.TheVariants as families
use Rattle.he_course.specs.Course.{lost}
use Rattle.he_course.specs.Events.{end_event}
use Rattle.he_live.specs.Reasons.{reason_text}
use Rattle.he_live.specs.declared.reason.Reason.{Reason}
use Rattle.he_plan.specs.declared.transcript.Line.{Line}
use Rattle.he_record.specs.Moments.{moment_text}
use Rattle.he_record.specs.declared.moment.Moment.{Moment}
use Rattle.he_timeline.specs.Timeline.{duration_of}
use Rattle.he_timeline.specs.declared.outcome.Outcome.{Outcome}
use Rattle.he_timeline.specs.declared.outcome.Outcome.TheVariants as outcomes
use Rattle.he_probing.specs.Rows.{has_connected}
use Rattle.he_probing.specs.declared.fastest.Fastest.{Fastest}
use Rattle.he_probing.specs.declared.round.Round.{Round}
use Rattle.he_probing.specs.declared.rows.AddressRow.{AddressRow}
use Rattle.he_probing.specs.declared.verdict.Verdict.{Verdict}
use Rattle.he_probing.specs.declared.verdict.Verdict.TheVariants as verdicts

-- ---- rows

abbrev pub family_text : Family → List ℕ
family_text families.V6 = codes "IPv6"
family_text families.V4 = codes "IPv4"

-- `connected`, `no answer`, or why the attempt failed
abbrev pub result_by : Reason → Option Outcome → List ℕ
result_by reason None = codes "no answer"
result_by reason (Some (outcomes.Ok duration)) = codes "connected"
result_by reason (Some (outcomes.Fail duration)) = reason_text reason

abbrev pub result_text : AddressRow → List ℕ
result_text row = result_by row.reason row.outcome

-- the milliseconds of an outcome, or those that the attempt was given
abbrev pub millis_by : ℕ → Option Outcome → ℕ
millis_by timeout None = timeout
millis_by timeout (Some outcome) = duration_of outcome

abbrev pub millis_of : ℕ → AddressRow → ℕ
millis_of timeout row = millis_by timeout row.outcome

-- ---- the verdict

abbrev pub shares_text : ℕ → ℕ → List ℕ
shares_text failed count =
    decimal failed ++ (codes " of " ++ (decimal count
    ++ ((if count == 1 then codes " address " else codes " addresses ")
    ++ (if failed == 1 then codes "fails" else codes "fail"))))

abbrev pub connection_text : Line → ℕ → List ℕ
connection_text winner end =
    codes "A client connects to " ++ (printed winner.ip ++ (codes " after " ++ (decimal end ++ codes " ms")))

-- the milliseconds that a client loses, if it loses any
abbrev pub lost_text : Option ℕ → List ℕ
lost_text None = []
lost_text (Some ticks) = if nat_lt 0 ticks then codes ", " ++ (decimal ticks ++ codes " of them lost") else []

-- the fastest address, if it is sooner than the client's connection
abbrev pub fastest_text : Option Fastest → ℕ → List ℕ
fastest_text None end = []
fastest_text (Some fastest) end =
    if nat_lt fastest.ticks end
    then codes "; " ++ (printed fastest.ip ++ (codes " alone would take " ++ decimal fastest.ticks))
    else []

-- the tick at which the client's race ends
abbrev pub end_of : Round → ℕ
end_of round = (end_event round.course.transcript.result).tick

abbrev pub client_by : Round → Option Line → List ℕ
client_by round None = codes "A client has no connection after " ++ (decimal (end_of round) ++ codes " ms")
client_by round (Some winner) =
    connection_text winner (end_of round) ++ (lost_text (lost round.course) ++ fastest_text round.fastest (end_of round))

abbrev pub client_text : Round → List ℕ
client_text round = client_by round round.course.ended.winner

abbrev pub verdict_by : Round → Verdict → List ℕ
verdict_by round verdicts.NothingConnects = codes "Nothing connects"
verdict_by round (verdicts.Broken family failed count) =
    family_text family ++ (codes " broken: " ++ (shares_text failed count ++ (codes ". " ++ client_text round)))
verdict_by round (verdicts.SomeFail failed count) =
    shares_text failed count ++ (codes "; clients lose nothing to them. " ++ client_text round)
verdict_by round verdicts.AllFine = codes "All fine. " ++ client_text round

abbrev pub verdict_text : Round → List ℕ
verdict_text round = verdict_by round round.verdict

-- ---- the heading

abbrev pub moment_before : Option Moment → List ℕ
moment_before None = []
moment_before (Some moment) = moment_text moment ++ codes " "

-- the time if there is one, the host as it is shown, and the port
abbrev pub heading_text : List ℕ → ℕ → Option Moment → List ℕ
heading_text host port at = moment_before at ++ (host ++ (codes " port " ++ decimal port))

-- how many of the rows connect, or that there are none
abbrev pub summary_text : List AddressRow → List ℕ
summary_text rows =
    if length rows == 0 then codes ": no address to try\n"
    else codes ": " ++ (decimal (count_by has_connected rows) ++ (codes " of " ++ (decimal (length rows)
    ++ (if length rows == 1 then codes " address connects\n" else codes " addresses connect\n"))))

-- the heading and the verdict, in one line
abbrev pub verdict_line : List ℕ → Round → List ℕ
verdict_line heading round = heading ++ (codes ": " ++ (verdict_text round ++ codes "\n"))
