-- A summary as OpenMetrics text, byte for byte: times are seconds.
use Rattle.std.specs.Prelude.{ℕ, ◌++◌, List, [], ◌∷◌, codes, Option, Some, None}
use Rattle.he_course.specs.declared.accounts.Times.{Times}
use Rattle.he_summary.specs.Figures.{total_of}
use Rattle.he_summary.specs.Members.{all_seconds_text, members_text}
use Rattle.he_totals.specs.declared.times.Spread.{Spread}
use Rattle.he_totals.specs.declared.totals.Counts.{Counts}
use Rattle.he_totals.specs.declared.totals.Totals.{Totals}

abbrev pub races_metric : Counts → List ℕ
races_metric counts =
    codes "# TYPE he_races counter\n# HELP he_races Races by how they ended.\n"
    ++ members_text
    ((codes "he_races_total{result=\"connected\",family=\"ipv6\"} ", counts.by_v6)
    ∷ (codes "\nhe_races_total{result=\"connected\",family=\"ipv4\"} ", counts.by_v4)
    ∷ (codes "\nhe_races_total{result=\"timed_out\"} ", counts.timed_out)
    ∷ (codes "\nhe_races_total{result=\"all_failed\"} ", counts.all_failed)
    ∷ (codes "\nhe_races_total{result=\"no_address\"} ", counts.no_address) ∷ [])

abbrev pub quantiles_metric : Option Spread → List ℕ
quantiles_metric None = []
quantiles_metric (Some times) =
    all_seconds_text
    ((codes "\nhe_connect_seconds{quantile=\"0.5\"} ", times.median)
    ∷ (codes "\nhe_connect_seconds{quantile=\"0.9\"} ", times.p90)
    ∷ (codes "\nhe_connect_seconds{quantile=\"0.99\"} ", times.p99)
    ∷ (codes "\nhe_connect_seconds{quantile=\"1\"} ", times.greatest) ∷ [])

-- the times to connect of the races that were won, with their sum and number
abbrev pub connect_metric : Totals → List ℕ
connect_metric totals =
    codes "\n# TYPE he_connect_seconds summary\n# UNIT he_connect_seconds seconds"
    ++ (codes "\n# HELP he_connect_seconds Time to connect, of the races that connected."
    ++ (quantiles_metric totals.times
    ++ (all_seconds_text ((codes "\nhe_connect_seconds_sum ", total_of totals.times) ∷ [])
    ++ members_text ((codes "\nhe_connect_seconds_count ", totals.counts.won) ∷ []))))

-- what the time of all races went into
abbrev pub times_metric : Times → List ℕ
times_metric sums =
    codes "\n# TYPE he_time_seconds counter\n# UNIT he_time_seconds seconds"
    ++ (codes "\n# HELP he_time_seconds Time of all races, by what it went into."
    ++ all_seconds_text
    ((codes "\nhe_time_seconds_total{into=\"names\"} ", sums.names)
    ∷ (codes "\nhe_time_seconds_total{into=\"lost\"} ", sums.lost)
    ∷ (codes "\nhe_time_seconds_total{into=\"unknown\"} ", sums.unknown)
    ∷ (codes "\nhe_time_seconds_total{into=\"machine\"} ", sums.machine)
    ∷ (codes "\nhe_time_seconds_total{into=\"connecting\"} ", sums.connecting) ∷ []))

abbrev pub delays_metric : ℕ → List ℕ
delays_metric waited =
    codes "\n# TYPE he_resolution_delays counter"
    ++ (codes "\n# HELP he_resolution_delays Races whose IPv4 attempt started without the AAAA answer."
    ++ (members_text ((codes "\nhe_resolution_delays_total ", waited) ∷ []) ++ codes "\n"))

abbrev pub attempts_metric : Totals → List ℕ
attempts_metric totals =
    codes "\n# TYPE he_attempts counter\n# HELP he_attempts Connection attempts."
    ++ (members_text ((codes "\nhe_attempts_total ", total_of totals.attempts) ∷ [])
    ++ delays_metric totals.counts.waited)

-- up to the end
abbrev pub metrics_text : Totals → List ℕ
metrics_text totals =
    races_metric totals.counts
    ++ (connect_metric totals ++ (times_metric totals.sums ++ attempts_metric totals))
