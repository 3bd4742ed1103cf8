use Rattle.std.proofs.Common.{◌∙◌}
use Rattle.std.specs.List.{flat_map}
use Rattle.std.proofs.lemmas.List.{append-nil}
use Rattle.std.proofs.lemmas.Result.{on_ok_weaker}
use Rattle.he_summary.specs.Figures.{server_facts}
use Rattle.he_summary.proofs.Told.{told_parts}
use Rattle.he_summary.proofs.writing.write_servers.Goals as goal

pub returns : goal.returns
returns g c =
    on_ok_weaker c.write_parts.result
    (λ done. told_parts c.new-parts.result.items c.push_parts.new.text.items (flat_map server_facts c.args.servers.now) c.args.text.now.items c.write_parts.new.text.items
    c.new-parts.ensures.items (c.in_ok-push_parts.ensures.facts ∙ append-nil _ ∙ c.in_ok-push_servers.ensures) (rw c.as_slice.ensures.value at done))
    c.write_parts.ensures
