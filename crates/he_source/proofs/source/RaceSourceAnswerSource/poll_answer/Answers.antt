use Rattle.std.proofs.Common.{inl, subst, sym}
use Rattle.he_source.specs.Sources.{Asks}
use Rattle.he_source.proofs.Hearing.{by_poll, covers_asking, covers_own, either, pending_so, silent_by}
use Rattle.he_source.proofs.source.RaceSourceAnswerSource.poll_answer.Goals as goal

pub returns-in-Asks-clause-waits : goal.returns-in-Asks-clause-waits
returns-in-Asks-clause-waits g c =
    let asks : Asks c.args.self.now.turn = subst Asks (sym c.in-Asks.is) tt in
    let later = c.poll_own.ensures.asks asks in
    pending_so c.poll_own.result
    (either (covers_asking _ c.poll_own.new.cx c.poll_own.new.self.turn later)
    (silent_by _ c.poll_own.new.self c.args.family later))
    c.poll_own.ensures.waits

pub returns-in-Asks-clause-other : goal.returns-in-Asks-clause-other
returns-in-Asks-clause-other g c = λ other apart covers.
    let asks : Asks c.args.self.now.turn = subst Asks (sym c.in-Asks.is) tt in
    covers_asking _ c.poll_own.new.cx c.poll_own.new.self.turn (c.poll_own.ensures.asks asks)
    (c.poll_own.ensures.other other apart (covers_own _ c.args.cx.now c.args.self.now.turn asks covers))

pub returns-in-Waits-clause-waits : goal.returns-in-Waits-clause-waits
returns-in-Waits-clause-waits g c =
    pending_so c.poll_kept.result (λ waits. inl (waits c.args.family)) c.poll_kept.ensures.waits

pub returns-in-Waits-clause-other : goal.returns-in-Waits-clause-other
returns-in-Waits-clause-other g c = λ other apart covers.
    by_poll c.poll_kept.result c.poll_kept.ensures.waits c.poll_kept.ensures.same (λ waits. waits other)
    (λ same. rw (same.0, same.1) covers)
