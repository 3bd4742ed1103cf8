use Rattle.std.proofs.Common.{◌++◌, [], ◌∷◌, codes}
use Rattle.std.proofs.lemmas.Result.{on_ok_weaker}
use Rattle.he_summary.specs.Members.{all_seconds_text}
use Rattle.he_summary.proofs.Joined.{joined}
use Rattle.he_summary.proofs.metrics.write_times.Goals as goal

pub returns : goal.returns
returns g c =
    on_ok_weaker c.write_all_seconds.result
    (λ done. joined (codes "\n# TYPE he_time_seconds counter\n# UNIT he_time_seconds seconds") (codes "\n# HELP he_time_seconds Time of all races, by what it went into." ++ all_seconds_text ((codes "\nhe_time_seconds_total{into=\"names\"} ", c.args.sums.names) ∷ (codes "\nhe_time_seconds_total{into=\"lost\"} ", c.args.sums.lost) ∷ (codes "\nhe_time_seconds_total{into=\"unknown\"} ", c.args.sums.unknown) ∷ (codes "\nhe_time_seconds_total{into=\"machine\"} ", c.args.sums.machine) ∷ (codes "\nhe_time_seconds_total{into=\"connecting\"} ", c.args.sums.connecting) ∷ [])) c.args.text.now.items c.extend_from_slice.new.self.items c.write_all_seconds.new.text.items c.in_ok-extend_from_slice.ensures.items
    (joined (codes "\n# HELP he_time_seconds Time of all races, by what it went into.") (all_seconds_text ((codes "\nhe_time_seconds_total{into=\"names\"} ", c.args.sums.names) ∷ (codes "\nhe_time_seconds_total{into=\"lost\"} ", c.args.sums.lost) ∷ (codes "\nhe_time_seconds_total{into=\"unknown\"} ", c.args.sums.unknown) ∷ (codes "\nhe_time_seconds_total{into=\"machine\"} ", c.args.sums.machine) ∷ (codes "\nhe_time_seconds_total{into=\"connecting\"} ", c.args.sums.connecting) ∷ [])) c.extend_from_slice.new.self.items c.extend_from_slice-2.new.self.items c.write_all_seconds.new.text.items c.in_ok-extend_from_slice-2.ensures.items done))
    c.write_all_seconds.ensures
