use Rattle.he_turns.proofs.Knowing.{next-answered, next-known, next-untold, next-unused}
use Rattle.he_turns.proofs.learning.add_known.Goals as goal

pub add_one-requires-clause-answered : goal.add_one-requires-clause-answered
add_one-requires-clause-answered c =
    next-answered c.args.recorded.now c.loop-ip.recorded c.args.told.now c.args.addresses.now c.loop-ip.ip-index _ c.loop-ip-test.true c.loop-ip.invariant.recorded c.requires.answered

pub add_one-requires-clause-no_rtt : goal.add_one-requires-clause-no_rtt
add_one-requires-clause-no_rtt c =
    next-untold c.args.recorded.now c.loop-ip.recorded c.args.told.now c.args.addresses.now c.loop-ip.ip-index _ c.loop-ip-test.true c.loop-ip.invariant.recorded c.requires.distinct c.requires.no_rtt

pub add_one-requires-clause-unused : goal.add_one-requires-clause-unused
add_one-requires-clause-unused c =
    next-unused c.args.recorded.now c.loop-ip.recorded c.args.told.now c.args.addresses.now c.loop-ip.ip-index _ c.loop-ip-test.true c.loop-ip.invariant.recorded c.requires.distinct c.requires.unused

pub loop-ip-preserved : goal.loop-ip-preserved
loop-ip-preserved c = record {
  recorded = next-known c.args.recorded.now c.loop-ip.recorded c.args.told.now c.args.addresses.now c.loop-ip.ip-index _ c.loop-ip-test.true c.loop-ip.invariant.recorded _ c.in_ok-add_one.ensures.recorded;
  valid = c.in_ok-add_one.ensures.valid;
}
