use Rattle.std.proofs.Common.{◌++◌, [], ◌∷◌, codes}
use Rattle.std.proofs.lemmas.Result.{on_ok_weaker}
use Rattle.he_summary.specs.Figures.{total_of}
use Rattle.he_summary.specs.Members.{members_text}
use Rattle.he_summary.specs.Metrics.{delays_metric}
use Rattle.he_summary.proofs.Joined.{joined}
use Rattle.he_summary.proofs.metrics.write_attempts.Goals as goal

pub returns : goal.returns
returns g c =
    on_ok_weaker c.write_delays.result
    (λ done. joined (codes "\n# TYPE he_attempts counter\n# HELP he_attempts Connection attempts.") (members_text ((codes "\nhe_attempts_total ", total_of c.args.totals.attempts) ∷ []) ++ delays_metric c.args.totals.counts.waited) c.args.text.now.items c.extend_from_slice.new.self.items c.write_delays.new.text.items c.in_ok-extend_from_slice.ensures.items
    (joined (members_text ((codes "\nhe_attempts_total ", total_of c.args.totals.attempts) ∷ [])) (delays_metric c.args.totals.counts.waited) c.extend_from_slice.new.self.items c.write_members.new.text.items c.write_delays.new.text.items (rw c.total_of.ensures at c.in_ok-write_members.ensures) done))
    c.write_delays.ensures
