use Rattle.he_write.specs.Written.{history_text, told_text}
use Rattle.he_words.proofs.Appending.{writes_then}
use Rattle.he_write.proofs.timelines.write_told_and_known.Goals as goal

pub returns : goal.returns
returns g c =
    writes_then c.args.out.now.items c.write_history.new.out.items c.write_told.new.out.items
    (history_text c.args.timeline.now.history)
    (told_text c.args.timeline.now)
    c.write_told.result c.in_ok-write_history.ensures c.write_told.ensures
