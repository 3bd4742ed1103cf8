use Rattle.std.proofs.lemmas.Result.{on_ok_weaker}
use Rattle.he_summary.specs.Written.{slow_facts}
use Rattle.he_summary.proofs.Told.{told_parts}
use Rattle.he_summary.proofs.writing.write_slow.Goals as goal

pub returns : goal.returns
returns g c =
    on_ok_weaker c.write_parts.result
    (λ done. told_parts c.new-parts.result.items c.push_slow.new.text.items (slow_facts c.args.form c.args.race.now) c.args.text.now.items c.write_parts.new.text.items
    c.new-parts.ensures.items c.in_ok-push_slow.ensures (rw c.as_slice.ensures.value at done))
    c.write_parts.ensures
