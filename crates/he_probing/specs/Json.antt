-- The JSON object of a round.
use Rattle.std.specs.Prelude.{ℕ, ◌++◌, List, [], ◌∷◌, codes, count_by, decimal, Option, Some, None}
use Rattle.std.specs.List.{flat_map}
use Rattle.std.specs.Option.{unwrap_or}
use Rattle.he_addr.specs.Ip.{family_of}
use Rattle.he_addr.specs.Printing.{printed}
use Rattle.he_addr.specs.declared.ip.Family.TheVariants as families
use Rattle.he_addr.specs.declared.ip.Ip.{Ip}
use Rattle.he_course.specs.Course.{lost}
use Rattle.he_plan.specs.declared.transcript.Line.{Line}
use Rattle.he_print.specs.Escaping.{string_text}
use Rattle.he_record.specs.Moments.{moment_text}
use Rattle.he_record.specs.declared.moment.Moment.{Moment}
use Rattle.he_probing.specs.Rows.{has_connected}
use Rattle.he_probing.specs.Texts.{end_of, family_text, millis_of, result_text}
use Rattle.he_probing.specs.declared.fastest.Fastest.{Fastest}
use Rattle.he_probing.specs.declared.request.RoundRequest.{RoundRequest}
use Rattle.he_probing.specs.declared.round.Round.{Round}
use Rattle.he_probing.specs.declared.rows.AddressRow.{AddressRow}
use Rattle.he_probing.specs.declared.verdict.Verdict.{Verdict}
use Rattle.he_probing.specs.declared.verdict.Verdict.TheVariants as verdicts

abbrev pub quoted : List ℕ → List ℕ
quoted text = codes "\"" ++ (text ++ codes "\"")

abbrev pub at_json : Option Moment → List ℕ
at_json None = codes "null"
at_json (Some moment) = quoted (moment_text moment)

abbrev pub port_json : ℕ → List ℕ
port_json port = codes ",\"port\":" ++ (decimal port ++ codes ",\"addresses\":[")

abbrev pub head_json : RoundRequest → Option Moment → List ℕ
head_json request at =
    codes "{\"at\":" ++ (at_json at ++ (codes ",\"host\":" ++ (string_text request.connect.host.now
    ++ port_json request.connect.port)))

abbrev pub source_json : Option Ip → List ℕ
source_json None = codes "null"
source_json (Some ip) = quoted (printed ip)

abbrev pub address_json : Ip → List ℕ
address_json ip =
    codes "{\"address\":\"" ++ (printed ip ++ (codes "\",\"family\":\"" ++ (family_text (family_of ip)
    ++ codes "\",\"source\":")))

abbrev pub millis_json : ℕ → List ℕ
millis_json millis = codes "\",\"ms\":" ++ (decimal millis ++ codes "}")

abbrev pub end_json : ℕ → AddressRow → List ℕ
end_json timeout row = codes ",\"outcome\":\"" ++ (result_text row ++ millis_json (millis_of timeout row))

abbrev pub row_json : ℕ → AddressRow → List ℕ
row_json timeout row = address_json row.ip ++ (source_json row.source ++ end_json timeout row)

abbrev pub next_json : ℕ → AddressRow → List ℕ
next_json timeout row = codes "," ++ row_json timeout row

-- the rows, with a comma between each two
abbrev pub rows_json : ℕ → List AddressRow → List ℕ
rows_json timeout [] = []
rows_json timeout (row ∷ rows) = row_json timeout row ++ flat_map (next_json timeout) rows

abbrev pub verdict_name : Verdict → List ℕ
verdict_name verdicts.NothingConnects = codes "nothing connects"
verdict_name (verdicts.Broken families.V6 failed count) = codes "IPv6 broken"
verdict_name (verdicts.Broken families.V4 failed count) = codes "IPv4 broken"
verdict_name (verdicts.SomeFail failed count) = codes "some fail"
verdict_name verdicts.AllFine = codes "all fine"

abbrev pub connection_json : Ip → ℕ → ℕ → List ℕ
connection_json ip end lost =
    codes "{\"address\":\"" ++ (printed ip ++ (codes "\",\"ms\":" ++ (decimal end
    ++ (codes ",\"lost_ms\":" ++ (decimal lost ++ codes "}")))))

abbrev pub client_by : Round → Option Line → List ℕ
client_by round None = codes "null"
client_by round (Some winner) = connection_json winner.ip (end_of round) (unwrap_or (lost round.course) 0)

abbrev pub client_json : Round → List ℕ
client_json round = client_by round round.course.ended.winner

abbrev pub fastest_json : Option Fastest → List ℕ
fastest_json None = codes "null"
fastest_json (Some fastest) =
    codes "{\"address\":\"" ++ (printed fastest.ip ++ (codes "\",\"ms\":" ++ (decimal fastest.ticks ++ codes "}")))

abbrev pub verdict_json : ℕ → Verdict → List ℕ
verdict_json connected verdict =
    codes "],\"connected\":" ++ (decimal connected ++ (codes ",\"verdict\":\"" ++ (verdict_name verdict
    ++ codes "\",\"client\":")))

abbrev pub tail_json : Round → List ℕ
tail_json round =
    verdict_json (count_by has_connected round.rows.items) round.verdict ++ (client_json round
    ++ (codes ",\"fastest\":" ++ (fastest_json round.fastest ++ codes "}\n")))

abbrev pub object_text : RoundRequest → Round → List ℕ
object_text request round =
    head_json request round.at ++ (rows_json request.timeout round.rows.items ++ tail_json round)
