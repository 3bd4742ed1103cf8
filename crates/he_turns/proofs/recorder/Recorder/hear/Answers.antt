use Rattle.he_turns.proofs.Listening.{both-listen}
use Rattle.he_turns.proofs.recorder.Recorder.hear.Goals as goal

pub returns-clause-waits : goal.returns-clause-waits
returns-clause-waits g c =
    both-listen g.S.AnswerSource c.hear_of.new.cx c.hear_of-2.new.cx c.args.source.now c.hear_of.new.source c.hear_of-2.new.source c.args.self.now.recorded c.hear_of.new.self.recorded c.hear_of-2.new.self.recorded c.args.now c.hear_of-2.result c.in_ok-hear_of.ensures.heard c.hear_of-2.ensures.heard c.hear_of-2.ensures.kept c.in_ok-hear_of.ensures.waits c.hear_of-2.ensures.waits c.hear_of-2.ensures.other
