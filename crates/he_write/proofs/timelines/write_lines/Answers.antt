use Rattle.std.proofs.Common.{◌++◌}
use Rattle.he_write.specs.Written.{top_text, selection_text, answers_text, history_text, told_text}
use Rattle.he_words.proofs.Appending.{writes_then}
use Rattle.he_write.proofs.timelines.write_lines.Goals as goal

pub returns : goal.returns
returns g c =
    writes_then c.args.out.now.items c.write_top.new.out.items c.write_rest.new.out.items
    (top_text c.args.timeline.now)
    (selection_text c.args.timeline.now ++ (answers_text c.args.timeline.now ++ (history_text c.args.timeline.now.history ++ told_text c.args.timeline.now)))
    c.write_rest.result c.in_ok-write_top.ensures c.write_rest.ensures
