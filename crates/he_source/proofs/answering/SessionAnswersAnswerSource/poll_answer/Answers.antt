use Rattle.std.proofs.Common.{refl, sym}
use Rattle.std.specs.Prelude.{None, Some}
use Rattle.he_turns.specs.Heard.{lists_of}
use Rattle.he_source.proofs.Hearing.{either, if_pending}
use Rattle.he_source.proofs.Session.{covers_answered, covers_asked, covers_other, hears_asked, silent_session}
use Rattle.he_source.proofs.answering.SessionAnswersAnswerSource.poll_answer.Goals as goal

pub returns-in-Pending-clause-pending : goal.returns-in-Pending-clause-pending
returns-in-Pending-clause-pending g c =
    let s = c.args.self.now in
    let polled = c.poll_answer.new.self in
    let new = record s { source = polled } in
    hears_asked _ s new c.args.family c.in-Some.asked c.args.now None (sym c.in-Some.ensures) (record {
      heard = None;
      polled = polled;
      is = c.in-Pending.ensures.pending;
      moves = (refl, refl, refl);
    })

pub returns-in-Pending-clause-waits : goal.returns-in-Pending-clause-waits
returns-in-Pending-clause-waits g c =
    let new = record c.args.self.now { source = c.poll_answer.new.self } in
    either (covers_asked _ c.poll_answer.new.cx new c.args.family c.in-Some.asked (sym c.in-Some.ensures))
    (silent_session _ new c.args.family c.in-Some.asked (sym c.in-Some.ensures)) c.in-Pending.ensures.waits

pub returns-in-Pending-clause-other : goal.returns-in-Pending-clause-other
returns-in-Pending-clause-other g c = λ other apart covers.
    let s = c.args.self.now in
    covers_other _ c.args.cx.now c.poll_answer.new.cx s (record s { source = c.poll_answer.new.self }) c.args.family c.in-Some.asked other
    (sym c.in-Some.ensures) refl c.in-Pending.ensures.other c.in-Pending.ensures.kept apart covers

pub returns-in-Some-answered-clause-ready : goal.returns-in-Some-answered-clause-ready
returns-in-Some-answered-clause-ready g c =
    hears_asked _ c.args.self.now c.answered.new.self c.args.family c.in-Some.asked c.args.now
    (Some (lists_of c.in-Some-answered.answer)) (sym c.in-Some.ensures) (record {
      heard = Some (lists_of c.in-Ready.answer);
      polled = c.poll_answer.new.self;
      is = c.in-Ready.ensures.ready;
      moves = c.in-Some-answered.ensures.after;
    })

pub returns-in-Some-answered-clause-other : goal.returns-in-Some-answered-clause-other
returns-in-Some-answered-clause-other g c = λ other apart covers.
    covers_answered _ c.args.cx.now c.poll_answer.new.cx c.args.self.now c.answered.new.self c.poll_answer.new.self c.args.family
    c.in-Some.asked other (lists_of c.in-Ready.answer) (lists_of c.in-Some-answered.answer) (sym c.in-Some.ensures)
    c.in-Some-answered.ensures.after c.in-Some-answered.ensures.host c.in-Ready.ensures.other c.in-Ready.ensures.kept
    apart covers

pub returns-in-None-clause-pending : goal.returns-in-None-clause-pending
returns-in-None-clause-pending g c =
    if_pending c.yield_now.result (hears_asked _ c.args.self.now c.answered.new.self c.args.family c.in-Some.asked c.args.now
    None (sym c.in-Some.ensures) (record {
      heard = Some (lists_of c.in-Ready.answer);
      polled = c.poll_answer.new.self;
      is = c.in-Ready.ensures.ready;
      moves = c.in-None.ensures.after;
    }))
