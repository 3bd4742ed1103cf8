use Rattle.std.proofs.Common.{◌++◌, List, ◌∙◌, ap, subst}
use Rattle.std.specs.List.{flat_map}
use Rattle.he_select.specs.Hosts.{HostLists}
use Rattle.he_select.specs.declared.policy.Row.{Row}
use Rattle.he_words.specs.Appending.{AppendsText}
use Rattle.he_write.specs.Written.{row_text, host_text}
use Rattle.he_words.proofs.Appending.{writes_then}
use Rattle.he_write.proofs.timelines.write_selection.Goals as goal

pub returns : goal.returns
returns g c =
    let P : HostLists → Type 0 = λ host. AppendsText c.write_host.result c.write_rows.new.out.items c.write_host.new.out.items (host_text host) in
    writes_then c.args.out.now.items c.write_rows.new.out.items c.write_host.new.out.items
    (flat_map row_text c.args.timeline.now.policy)
    (host_text c.args.timeline.now.host)
    c.write_host.result
    (c.in_ok-write_rows.ensures ∙ ap (λ (rows : List Row). c.args.out.now.items ++ flat_map row_text rows) (c.as_slice.ensures ∙ c.rows.ensures.rows ∙ c.policy.ensures.value))
    (subst P c.host.ensures.value c.write_host.ensures)
