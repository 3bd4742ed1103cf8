use Rattle.he_compare.specs.Groups.{division_of}
use Rattle.he_compare.proofs.Tables.{row_more}
use Rattle.he_compare.proofs.group_table.write_groups.Goals as goal

pub loop-group-preserved : goal.loop-group-preserved
loop-group-preserved g c = λ new rest.
    let (text, is, same) = c.in_ok-write_group.ensures in
    c.loop-group.invariant new
    (row_more c.args.form (division_of c.args.grouping) c.deref-group-items.result.now c.loop-group.group-index _ text c.loop-group.text.items c.write_group.new.text.items new c.loop-group-test.true is same rest)
