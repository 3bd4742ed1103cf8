use Rattle.std.proofs.lemmas.Result.{on_ok_weaker}
use Rattle.he_summary.specs.Figures.{tally_facts}
use Rattle.he_summary.proofs.Told.{told_parts}
use Rattle.he_summary.proofs.addresses.write_tally.Goals as goal

pub returns : goal.returns
returns g c =
    on_ok_weaker c.write_parts.result
    (λ done. told_parts c.new-parts.result.items c.push_parts.new.text.items (tally_facts c.args.tallied) c.args.text.now.items c.write_parts.new.text.items
    c.new-parts.ensures.items c.in_ok-push_parts.ensures.facts (rw c.as_slice.ensures.value at done))
    c.write_parts.ensures
