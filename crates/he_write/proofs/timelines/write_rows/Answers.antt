use Rattle.std.proofs.Common.{rules, take}
use Rattle.std.specs.List.{flat_map}
use Rattle.he_words.specs.Appending.{Grows}
use Rattle.he_write.specs.Written.{row_text}
use Rattle.he_write.proofs.LoopLaws.{one_more, all_done}
use Rattle.he_words.proofs.Appending.{grows_after}
use Rattle.he_write.proofs.timelines.write_rows.Goals as goal

pub returns-in_err-write_row : goal.returns-in_err-write_row
returns-in_err-write_row g c =
    let kept : Grows c.args.out.now.items c.write_row.new.out.items =
    grows_after c.args.out.now.items (flat_map row_text (take c.loop-row.row-index c.args.rows.now)) c.loop-row.out.items c.write_row.new.out.items c.loop-row.invariant c.in_err-write_row.ensures in
    search rules

pub loop-row-preserved : goal.loop-row-preserved
loop-row-preserved g c =
    one_more row_text c.args.rows.now c.loop-row.row-index c.row-item.result c.args.out.now.items c.loop-row.out.items c.write_row.new.out.items
    c.loop-row-test.true c.row-item.is c.loop-row.invariant c.in_ok-write_row.ensures

pub returns : goal.returns
returns g c = all_done row_text c.args.rows.now c.loop-row.row-index c.args.out.now.items c.loop-row.out.items c.loop-row-test.false c.loop-row.invariant
