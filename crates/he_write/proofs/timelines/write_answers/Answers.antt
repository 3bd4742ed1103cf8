use Rattle.std.specs.Prelude.{codes}
use Rattle.he_write.specs.Written.{answer_text}
use Rattle.he_words.proofs.Appending.{writes_then}
use Rattle.he_write.proofs.timelines.write_answers.Goals as goal

pub returns : goal.returns
returns g c =
    writes_then c.args.out.now.items c.write_answer.new.out.items c.write_answer-2.new.out.items
    (answer_text (codes "aaaa") c.args.timeline.now.aaaa)
    (answer_text (codes "a") c.args.timeline.now.a)
    c.write_answer-2.result c.in_ok-write_answer.ensures c.write_answer-2.ensures
