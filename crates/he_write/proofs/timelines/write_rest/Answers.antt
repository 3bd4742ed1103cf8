use Rattle.std.proofs.Common.{◌++◌}
use Rattle.he_write.specs.Written.{selection_text, answers_text, history_text, told_text}
use Rattle.he_words.proofs.Appending.{writes_then}
use Rattle.he_write.proofs.timelines.write_rest.Goals as goal

pub returns : goal.returns
returns g c =
    writes_then c.args.out.now.items c.write_selection.new.out.items c.write_events.new.out.items
    (selection_text c.args.timeline.now)
    (answers_text c.args.timeline.now ++ (history_text c.args.timeline.now.history ++ told_text c.args.timeline.now))
    c.write_events.result c.in_ok-write_selection.ensures c.write_events.ensures
