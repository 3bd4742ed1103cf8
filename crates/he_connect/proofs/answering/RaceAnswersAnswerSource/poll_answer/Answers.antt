use Rattle.he_connect.specs.declared.answering.RaceAnswers.TheVariants as answers
use Rattle.he_connect.proofs.Synthesized.{covers_so, pending_so, ready_so}
use Rattle.he_connect.proofs.answering.RaceAnswersAnswerSource.poll_answer.Goals as goal

pub returns-in-Host-clause-other : goal.returns-in-Host-clause-other
returns-in-Host-clause-other g c = λ other apart covers.
    c.poll_host.ensures.other other apart
    (covers_so c.args.cx.now c.args.self.now (answers.Host c.in-Host.answers) other c.in-Host.is covers)

pub returns-in-Embedded-clause-pending : goal.returns-in-Embedded-clause-pending
returns-in-Embedded-clause-pending g c =
    pending_so c.args.self.now c.in-Embedded.answers c.poll_embedded.new.self c.args.family c.poll_embedded.result
    c.in-Embedded.is c.poll_embedded.ensures.stays

pub returns-in-Embedded-clause-ready : goal.returns-in-Embedded-clause-ready
returns-in-Embedded-clause-ready g c =
    ready_so c.args.self.now c.in-Embedded.answers c.poll_embedded.new.self c.args.family c.poll_embedded.result
    c.in-Embedded.is c.poll_embedded.ensures.stays c.poll_embedded.ensures.ready

pub returns-in-Embedded-clause-other : goal.returns-in-Embedded-clause-other
returns-in-Embedded-clause-other g c = λ other apart covers.
    c.poll_embedded.ensures.other other apart
    (covers_so c.args.cx.now c.args.self.now (answers.Embedded c.in-Embedded.answers) other c.in-Embedded.is covers)
