-- The counts of a proxy as OpenMetrics text (OpenMetrics 1.0), octet for octet: times are seconds.
use Rattle.std.specs.Prelude.{ℕ, ◌-◌, ◌++◌, List, [], ◌∷◌, codes}
use Rattle.he_metrics.specs.Samples.{head_text, lines_text, metric_text, sum_text, unit_text}
use Rattle.he_metrics.specs.declared.counts.Counts.{Counts}
use Rattle.he_metrics.specs.declared.histogram.Histogram.{Histogram}
use Rattle.he_metrics.specs.declared.metrics.Now.{Now}
use Rattle.he_metrics.specs.declared.tables.Ends.{Ends}
use Rattle.he_metrics.specs.declared.tables.Lookups.{Lookups}
use Rattle.he_metrics.specs.declared.tables.Losses.{Losses}
use Rattle.he_metrics.specs.declared.tables.Refusals.{Refusals}
use Rattle.he_metrics.specs.declared.tables.Wins.{Wins}

abbrev pub begun_text : ℕ → List ℕ
begun_text begun =
    metric_text (codes "he_sessions") (codes "counter") (codes "Sessions that began.")
    ((codes "_total", begun) ∷ [])

abbrev pub ends_text : Ends → List ℕ
ends_text ends =
    metric_text (codes "he_sessions_ended") (codes "counter") (codes "Sessions that ended, by how.")
    ((codes "_total{end=\"closed\"}", ends.closed)
    ∷ (codes "_total{end=\"client_broke\"}", ends.client_broke)
    ∷ (codes "_total{end=\"server_broke\"}", ends.server_broke)
    ∷ (codes "_total{end=\"idle\"}", ends.idle)
    ∷ (codes "_total{end=\"client_left\"}", ends.client_left)
    ∷ (codes "_total{end=\"displaced\"}", ends.displaced)
    ∷ (codes "_total{end=\"too_late\"}", ends.too_late)
    ∷ (codes "_total{end=\"refused\"}", ends.refused)
    ∷ (codes "_total{end=\"no_response\"}", ends.no_response)
    ∷ (codes "_total{end=\"page\"}", ends.page)
    ∷ (codes "_total{end=\"unknown_protocol\"}", ends.unknown_protocol)
    ∷ (codes "_total{end=\"no_memory\"}", ends.no_memory) ∷ [])

abbrev pub open_text : ℕ → List ℕ
open_text running =
    metric_text (codes "he_sessions_open") (codes "gauge") (codes "Sessions that have not ended.")
    ((codes "", running) ∷ [])

abbrev pub waiting_text : ℕ → List ℕ
waiting_text waiting =
    metric_text (codes "he_sessions_waiting") (codes "gauge") (codes "Sessions whose client has sent nothing yet.")
    ((codes "", waiting) ∷ [])

abbrev pub refused_text : Refusals → List ℕ
refused_text refused =
    metric_text (codes "he_clients_refused") (codes "counter") (codes "Clients that were not served, by why.")
    ((codes "_total{why=\"turned_away\"}", refused.turned_away)
    ∷ (codes "_total{why=\"too_many\"}", refused.too_many) ∷ [])

-- the sessions; those that have not ended are those that began without those that ended
abbrev pub of_sessions_text : Counts → ℕ → List ℕ
of_sessions_text counts waiting =
    begun_text counts.begun
    ++ (ends_text counts.ends
    ++ (open_text (counts.begun - counts.ended) ++ (waiting_text waiting ++ refused_text counts.refused)))

abbrev pub races_text : Wins → Losses → List ℕ
races_text wins losses =
    metric_text (codes "he_races") (codes "counter") (codes "Races by how they ended.")
    ((codes "_total{result=\"connected\",family=\"ipv6\"}", wins.by_v6)
    ∷ (codes "_total{result=\"connected\",family=\"ipv4\"}", wins.by_v4)
    ∷ (codes "_total{result=\"client_left\"}", losses.client_left)
    ∷ (codes "_total{result=\"forbidden\"}", losses.forbidden)
    ∷ (codes "_total{result=\"all_failed\"}", losses.all_failed)
    ∷ (codes "_total{result=\"timed_out\"}", losses.timed_out)
    ∷ (codes "_total{result=\"unreachable\"}", losses.unreachable)
    ∷ (codes "_total{result=\"no_network\"}", losses.no_network)
    ∷ (codes "_total{result=\"no_descriptor\"}", losses.no_descriptor)
    ∷ (codes "_total{result=\"not_a_name\"}", losses.not_a_name)
    ∷ (codes "_total{result=\"no_such_name\"}", losses.no_such_name)
    ∷ (codes "_total{result=\"no_address\"}", losses.no_address)
    ∷ (codes "_total{result=\"no_answer\"}", losses.no_answer)
    ∷ (codes "_total{result=\"dns_refused\"}", losses.dns_refused)
    ∷ (codes "_total{result=\"dns_failed\"}", losses.dns_failed)
    ∷ (codes "_total{result=\"proxy_failed\"}", losses.proxy_failed) ∷ [])

-- the bounds are seconds
abbrev pub buckets_text : List ℕ → Histogram → List ℕ
buckets_text name times =
    lines_text name
    ((codes "_bucket{le=\"0.005\"}", times.ms_5)
    ∷ (codes "_bucket{le=\"0.01\"}", times.ms_10)
    ∷ (codes "_bucket{le=\"0.025\"}", times.ms_25)
    ∷ (codes "_bucket{le=\"0.05\"}", times.ms_50)
    ∷ (codes "_bucket{le=\"0.1\"}", times.ms_100)
    ∷ (codes "_bucket{le=\"0.25\"}", times.ms_250)
    ∷ (codes "_bucket{le=\"0.5\"}", times.ms_500)
    ∷ (codes "_bucket{le=\"1.0\"}", times.ms_1000)
    ∷ (codes "_bucket{le=\"2.5\"}", times.ms_2500)
    ∷ (codes "_bucket{le=\"5.0\"}", times.ms_5000)
    ∷ (codes "_bucket{le=\"10.0\"}", times.ms_10000)
    ∷ (codes "_bucket{le=\"+Inf\"}", times.count)
    ∷ (codes "_count", times.count) ∷ [])

abbrev pub histogram_text : List ℕ → List ℕ → Histogram → List ℕ
histogram_text name help times =
    head_text name (codes "histogram") help
    ++ (unit_text name ++ (buckets_text name times ++ sum_text name times.sum))

abbrev pub connect_text : Histogram → List ℕ
connect_text times =
    histogram_text (codes "he_connect_seconds") (codes "Time to connect, of the races that connected.") times

abbrev pub names_text : Histogram → List ℕ
names_text times =
    histogram_text (codes "he_names_seconds") (codes "Time until the first attempt, of the races that connected.") times

abbrev pub lost_text : Histogram → List ℕ
lost_text times =
    histogram_text (codes "he_lost_seconds") (codes "Time lost on the way, of the races that connected.") times

abbrev pub of_races_text : Counts → List ℕ
of_races_text counts =
    races_text counts.wins counts.losses
    ++ (connect_text counts.connect ++ (names_text counts.names ++ lost_text counts.lost))

abbrev pub lookups_text : Lookups → List ℕ
lookups_text lookups =
    metric_text (codes "he_lookups") (codes "counter") (codes "Look-ups of names, by where the answer came from.")
    ((codes "_total{from=\"asked\"}", lookups.asked)
    ∷ (codes "_total{from=\"shared\"}", lookups.shared)
    ∷ (codes "_total{from=\"kept\"}", lookups.kept) ∷ [])

abbrev pub records_text : ℕ → ℕ → List ℕ
records_text recorded not_recorded =
    metric_text (codes "he_records") (codes "counter") (codes "Records of races, by whether they could be written.")
    ((codes "_total{result=\"written\"}", recorded) ∷ (codes "_total{result=\"failed\"}", not_recorded) ∷ [])

abbrev pub lines_lost_text : ℕ → List ℕ
lines_lost_text lost =
    metric_text (codes "he_log_lines_lost") (codes "counter") (codes "Lines of the log that standard error did not take.")
    ((codes "_total", lost) ∷ [])

-- up to the end
abbrev pub metrics_text : Counts → Now → List ℕ
metrics_text counts now =
    of_sessions_text counts now.waiting
    ++ (of_races_text counts
    ++ (lookups_text counts.lookups
    ++ (records_text counts.recorded counts.not_recorded
    ++ (lines_lost_text now.lines_lost ++ codes "# EOF\n"))))
