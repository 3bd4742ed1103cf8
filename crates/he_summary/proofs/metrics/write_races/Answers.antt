use Rattle.std.proofs.Common.{[], ◌∷◌, codes}
use Rattle.std.proofs.lemmas.Result.{on_ok_weaker}
use Rattle.he_summary.specs.Members.{members_text}
use Rattle.he_summary.proofs.Joined.{joined}
use Rattle.he_summary.proofs.metrics.write_races.Goals as goal

pub returns : goal.returns
returns g c =
    on_ok_weaker c.write_members.result
    (λ done. joined (codes "# TYPE he_races counter\n# HELP he_races Races by how they ended.\n") (members_text ((codes "he_races_total{result=\"connected\",family=\"ipv6\"} ", c.args.counts.by_v6) ∷ (codes "\nhe_races_total{result=\"connected\",family=\"ipv4\"} ", c.args.counts.by_v4) ∷ (codes "\nhe_races_total{result=\"timed_out\"} ", c.args.counts.timed_out) ∷ (codes "\nhe_races_total{result=\"all_failed\"} ", c.args.counts.all_failed) ∷ (codes "\nhe_races_total{result=\"no_address\"} ", c.args.counts.no_address) ∷ [])) c.args.text.now.items c.extend_from_slice.new.self.items c.write_members.new.text.items c.in_ok-extend_from_slice.ensures.items done)
    c.write_members.ensures
