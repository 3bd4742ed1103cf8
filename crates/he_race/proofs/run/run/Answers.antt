use Rattle.std.proofs.Common.{◌∙◌, sym, refl, subst, arith, rules}
use Rattle.he_race.specs.Running.{IsScripted}
use Rattle.he_race.proofs.Runs.{can_stand, few_polls, past_limit, pending_waits, ready_fate}
use Rattle.he_race.proofs.run.run.Goals as goal

pub loop-init : goal.loop-init
loop-init g c = record { scripted = c.requires; limit = search rules; stands = (c.new-future.ensures, refl) }

pub returns-then-tick-limit : goal.returns-then-tick-limit
returns-then-tick-limit g c =
    sym (past_limit c.args.timeline.now c.settings.ensures.race c.args.attempt c.loop.counter c.loop.future c.loop.tick c.loop.invariant.stands (omega (arith, c.if-tick-limit.true, c.loop.invariant.limit)))

pub poll_at-requires-clause-can : goal.poll_at-requires-clause-can
poll_at-requires-clause-can g c =
    can_stand g.C.Connector c.args.timeline.now c.settings.ensures.race c.args.attempt c.loop.connector c.loop.invariant.scripted c.loop.counter c.loop.tick c.loop.future c.loop.invariant.stands

pub returns-in-Ready : goal.returns-in-Ready
returns-in-Ready g c =
    c.fate_at.ensures ∙ ready_fate g.C.Connector c.args.timeline.now c.settings.ensures.race c.args.attempt c.loop.connector c.loop.invariant.scripted c.loop.counter c.loop.tick c.loop.future c.poll_at.new.future c.in-Ready.finish c.poll_at.new.connector c.loop.invariant.stands (omega (arith, c.if-tick-limit.false, c.loop.invariant.limit)) c.in-Ready.ensures

pub returns-in-None : goal.returns-in-None
returns-in-None g c =
    let w = pending_waits g.C.Connector c.args.timeline.now c.settings.ensures.race c.args.attempt c.loop.connector c.loop.invariant.scripted c.loop.counter c.loop.tick c.loop.future c.poll_at.new.future c.poll_at.new.connector c.loop.invariant.stands c.in-Pending.ensures in
    sym (w.none (sym c.in-None.ensures))

pub loop-preserved : goal.loop-preserved
loop-preserved g c =
    let w = pending_waits g.C.Connector c.args.timeline.now c.settings.ensures.race c.args.attempt c.loop.connector c.loop.invariant.scripted c.loop.counter c.loop.tick c.loop.future c.poll_at.new.future c.poll_at.new.connector c.loop.invariant.stands c.in-Pending.ensures in
    record {
      scripted = subst (IsScripted g.C.Connector c.args.timeline.now) (sym w.same) c.loop.invariant.scripted;
      limit = c.loop.invariant.limit;
      stands = rw c.seen-tick.ensures.value (w.some c.in-Some.due (sym c.in-Some.ensures));
    }

pub unreachable-requires : goal.unreachable-requires
unreachable-requires g c = omega (arith, few_polls c.args.timeline.now c.args.attempt c.loop.counter c.loop.future c.loop.tick c.loop.invariant.stands)
