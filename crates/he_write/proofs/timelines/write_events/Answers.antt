use Rattle.std.proofs.Common.{◌++◌}
use Rattle.he_write.specs.Written.{answers_text, history_text, told_text}
use Rattle.he_words.proofs.Appending.{writes_then}
use Rattle.he_write.proofs.timelines.write_events.Goals as goal

pub returns : goal.returns
returns g c =
    writes_then c.args.out.now.items c.write_answers.new.out.items c.write_told_and_known.new.out.items
    (answers_text c.args.timeline.now)
    (history_text c.args.timeline.now.history ++ told_text c.args.timeline.now)
    c.write_told_and_known.result c.in_ok-write_answers.ensures c.write_told_and_known.ensures
