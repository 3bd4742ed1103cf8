use Rattle.he_turns.specs.Heard.{lists_of}
use Rattle.he_turns.proofs.Listening.{heard-family, if-none, listens_on, on_ok}
use Rattle.he_turns.proofs.recorder.Recorder.hear_of.Goals as goal

pub returns-in-Pending-clause-waits : goal.returns-in-Pending-clause-waits
returns-in-Pending-clause-waits g c = if-none _ _ c.in-Pending.ensures.waits

pub returns-in-Ready-clause-waits : goal.returns-in-Ready-clause-waits
returns-in-Ready-clause-waits g c =
    heard-family c.answer-in-Ready.result _ _ c.args.family _ (lists_of c.in-Ready.told) _ _ c.answer-in-Ready.ensures.recorded

pub returns-in-Pending-clause-other : goal.returns-in-Pending-clause-other
returns-in-Pending-clause-other g c =
    listens_on g.S.AnswerSource c.args.cx.now c.poll_answer.new.cx c.args.source.now c.poll_answer.new.self c.args.family c.args.now _ c.in-Pending.ensures.pending c.poll_answer.ensures.other

pub returns-in-Ready-clause-other : goal.returns-in-Ready-clause-other
returns-in-Ready-clause-other g c =
    on_ok c.answer-in-Ready.result _
    (listens_on g.S.AnswerSource c.args.cx.now c.poll_answer.new.cx c.args.source.now c.poll_answer.new.self c.args.family c.args.now _ c.in-Ready.ensures.ready c.poll_answer.ensures.other)
