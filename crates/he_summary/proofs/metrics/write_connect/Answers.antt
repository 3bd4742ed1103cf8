use Rattle.std.proofs.Common.{◌++◌, [], ◌∷◌, codes}
use Rattle.std.proofs.lemmas.Result.{on_ok_weaker}
use Rattle.he_summary.specs.Figures.{total_of}
use Rattle.he_summary.specs.Members.{all_seconds_text, members_text}
use Rattle.he_summary.specs.Metrics.{quantiles_metric}
use Rattle.he_summary.proofs.Joined.{joined}
use Rattle.he_summary.proofs.metrics.write_connect.Goals as goal

pub returns : goal.returns
returns g c =
    on_ok_weaker c.write_members.result
    (λ done. joined (codes "\n# TYPE he_connect_seconds summary\n# UNIT he_connect_seconds seconds") (codes "\n# HELP he_connect_seconds Time to connect, of the races that connected." ++ (quantiles_metric c.args.totals.times ++ (all_seconds_text ((codes "\nhe_connect_seconds_sum ", total_of c.args.totals.times) ∷ []) ++ members_text ((codes "\nhe_connect_seconds_count ", c.args.totals.counts.won) ∷ [])))) c.args.text.now.items c.extend_from_slice.new.self.items c.write_members.new.text.items c.in_ok-extend_from_slice.ensures.items
    (joined (codes "\n# HELP he_connect_seconds Time to connect, of the races that connected.") (quantiles_metric c.args.totals.times ++ (all_seconds_text ((codes "\nhe_connect_seconds_sum ", total_of c.args.totals.times) ∷ []) ++ members_text ((codes "\nhe_connect_seconds_count ", c.args.totals.counts.won) ∷ []))) c.extend_from_slice.new.self.items c.extend_from_slice-2.new.self.items c.write_members.new.text.items c.in_ok-extend_from_slice-2.ensures.items
    (joined (quantiles_metric c.args.totals.times) (all_seconds_text ((codes "\nhe_connect_seconds_sum ", total_of c.args.totals.times) ∷ []) ++ members_text ((codes "\nhe_connect_seconds_count ", c.args.totals.counts.won) ∷ [])) c.extend_from_slice-2.new.self.items c.write_quantiles.new.text.items c.write_members.new.text.items c.in_ok-write_quantiles.ensures
    (joined (all_seconds_text ((codes "\nhe_connect_seconds_sum ", total_of c.args.totals.times) ∷ [])) (members_text ((codes "\nhe_connect_seconds_count ", c.args.totals.counts.won) ∷ [])) c.write_quantiles.new.text.items c.write_all_seconds.new.text.items c.write_members.new.text.items (rw c.total_of.ensures at c.in_ok-write_all_seconds.ensures) done))))
    c.write_members.ensures
