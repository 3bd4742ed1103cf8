use Rattle.std.proofs.Common.{◌++◌, ◌∷◌, []}
use Rattle.std.specs.Prelude.{codes}
use Rattle.he_write.specs.Written.{written_line, top_text, selection_text, answers_text, history_text, told_text}
use Rattle.he_words.proofs.Appending.{writes_then}
use Rattle.he_write.proofs.timelines.write_whole.Goals as goal

pub returns : goal.returns
returns g c =
    writes_then c.args.out.now.items c.write_lines.new.out.items c.write_line.new.out.items
    (top_text c.args.timeline.now ++ (selection_text c.args.timeline.now ++ (answers_text c.args.timeline.now ++ (history_text c.args.timeline.now.history ++ told_text c.args.timeline.now))))
    (written_line (codes "end" ∷ []))
    c.write_line.result c.in_ok-write_lines.ensures c.write_line.ensures
