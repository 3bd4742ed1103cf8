use Rattle.std.proofs.Common.{inl}
use Rattle.std.specs.Prelude.{None}
use Rattle.he_turns.specs.Heard.{lists_of}
use Rattle.he_source.proofs.Hearing.{heard_none, heard_told}
use Rattle.he_source.proofs.source.RaceSource.poll_own.Goals as goal

pub returns-in-Pending-clause-pending : goal.returns-in-Pending-clause-pending
returns-in-Pending-clause-pending g c = (
  None,
  tt,
  heard_none c.args.self.now.answers c.poll_told.new.self c.args.family c.poll_told.ensures.brings
      c.poll_told.ensures.origin c.poll_told.ensures.sound,
)

pub returns-in-Pending-clause-waits : goal.returns-in-Pending-clause-waits
returns-in-Pending-clause-waits g c = inl c.in-Pending.ensures.waits

pub returns-in-Ready-clause-ready : goal.returns-in-Ready-clause-ready
returns-in-Ready-clause-ready g c =
    heard_told c.args.self.now.answers c.poll_told.new.self c.answered.new.self.answers c.args.family c.in-Ready.told
    (lists_of c.answer_of.result) c.answered.ensures.answers c.poll_told.ensures.brings c.poll_told.ensures.origin
    c.poll_told.ensures.sound c.in-Ready.ensures.told c.answer_of.ensures

pub returns-in-Ready-clause-other : goal.returns-in-Ready-clause-other
returns-in-Ready-clause-other g c = λ other apart covers.
    rw c.answered.ensures.answers (c.poll_told.ensures.other other apart covers)
