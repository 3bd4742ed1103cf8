use Rattle.std.proofs.Common.{is_some, arith}
use Rattle.he_turns.proofs.Listening.{listening-all, listening-pending, listening-ready}
use Rattle.he_turns.proofs.Sweeps.{sweeping-over, sweeping-pending, sweeping-ready}
use Rattle.he_turns.proofs.Turning.{polling-none, polling-some}
use Rattle.he_turns.proofs.live.Live.poll_all.Goals as goal

pub loop-i-preserved-in-None : goal.loop-i-preserved-in-None
loop-i-preserved-in-None g c = (
  polling-none g.C.Connector g.C.Run.Trial c.args.self.now.recorder c.args.now c.loop-i.self c.poll_one.new.self c.loop-i.i (is_some c.loop-i.winner) c.in_ok-poll_one.field-0 c.loop-i.invariant.0 (omega arith) c.in-None.is c.in_ok-poll_one.ensures.recorder c.in_ok-poll_one.ensures.unfinished c.in_ok-poll_one.ensures.untold c.in_ok-poll_one.ensures.left,
  sweeping-pending g.C.Connector g.C.Run.Trial _ _ c.args.now c.loop-i.connector c.poll_one.new.connector c.loop-i.self c.poll_one.new.self c.loop-i.i c.loop-i.winner c.in_ok-poll_one.field-0 c.loop-i.invariant.1 (omega arith) c.in-None.is c.in_ok-poll_one.ensures.step,
  λ fact h. c.poll_one.ensures.kept fact (c.loop-i.invariant.2 fact h),
  listening-pending g.C.Connector g.C.Run.Trial c.loop-i.cx c.poll_one.new.cx c.args.now c.loop-i.connector c.poll_one.new.connector c.loop-i.self c.poll_one.new.self c.loop-i.i c.in_ok-poll_one.field-0 c.loop-i.invariant.3 c.poll_one.ensures.kept (omega arith) c.in-None.is c.in_ok-poll_one.ensures.step c.in_ok-poll_one.ensures.waits,
)

pub loop-i-preserved : goal.loop-i-preserved
loop-i-preserved g c = (
  polling-some g.C.Connector g.C.Run.Trial c.args.self.now.recorder c.args.now c.loop-i.self c.poll_one.new.self c.loop-i.i (is_some c.loop-i.winner) (is_some c.first_of-winner.result) c.in_ok-poll_one.field-0 c.in-Some.answer c.loop-i.invariant.0 (omega arith) c.in-Some.is c.first_of-winner.ensures.is_some c.in_ok-poll_one.ensures.recorder c.in_ok-poll_one.ensures.unfinished c.in_ok-poll_one.ensures.untold c.in_ok-poll_one.ensures.left,
  sweeping-ready g.C.Connector g.C.Run.Trial _ _ c.args.now c.loop-i.connector c.poll_one.new.connector c.loop-i.self c.poll_one.new.self c.loop-i.i c.loop-i.winner c.first_of-winner.result c.in_ok-poll_one.field-0 c.in-Some.answer c.loop-i.invariant.1 (omega arith) c.in-Some.is c.first_of-winner.ensures.value c.in_ok-poll_one.ensures.step,
  λ fact h. c.poll_one.ensures.kept fact (c.loop-i.invariant.2 fact h),
  listening-ready g.C.Connector g.C.Run.Trial c.loop-i.cx c.poll_one.new.cx c.args.now c.loop-i.connector c.poll_one.new.connector c.loop-i.self c.poll_one.new.self c.loop-i.i c.in_ok-poll_one.field-0 c.in-Some.answer c.loop-i.invariant.3 c.poll_one.ensures.kept (omega arith) c.in-Some.is c.in_ok-poll_one.ensures.step,
)

pub poll_one-requires-clause-untold : goal.poll_one-requires-clause-untold
poll_one-requires-clause-untold g c = c.loop-i.invariant.0.untold

pub returns-clause-untold : goal.returns-clause-untold
returns-clause-untold g c = c.loop-i.invariant.0.untold

pub returns-clause-each : goal.returns-clause-each
returns-clause-each g c =
    sweeping-over g.C.Connector g.C.Run.Trial _ _ c.args.now c.loop-i.connector c.loop-i.self.recorder.recorded c.loop-i.self.recorder.underway.attempts c.loop-i.self.unfinished.items c.loop-i.i c.loop-i.winner c.loop-i.invariant.1 (omega (arith, c.loop-i.invariant.0.within))

pub returns-clause-waits : goal.returns-clause-waits
returns-clause-waits g c =
    listening-all g.C.Connector g.C.Run.Trial c.loop-i.cx c.loop-i.self.unfinished.items c.loop-i.i (omega (arith, c.loop-i.invariant.0.within)) c.loop-i.invariant.3
