use Rattle.std.proofs.lemmas.Result.{on_ok_weaker}
use Rattle.he_summary.specs.Figures.{text_facts}
use Rattle.he_summary.proofs.Told.{told_parts}
use Rattle.he_summary.proofs.writing.write_figures.Goals as goal

pub returns : goal.returns
returns g c =
    on_ok_weaker c.write_parts.result
    (λ done. told_parts c.new-parts.result.items c.push_text.new.text.items (text_facts c.args.totals c.args.kept.now) c.args.text.now.items c.write_parts.new.text.items
    c.new-parts.ensures.items c.in_ok-push_text.ensures (rw c.as_slice.ensures.value at done))
    c.write_parts.ensures
