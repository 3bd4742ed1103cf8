use Rattle.he_live.specs.Reasons.{failure_line}
use Rattle.he_write.proofs.LoopLaws.{one_more_at}
use Rattle.he_live.proofs.failures.write_failures.Goals as goal

pub loop-attempt-preserved : goal.loop-attempt-preserved
loop-attempt-preserved g c =
    one_more_at failure_line c.args.failed.now c.loop-attempt.attempt-index _ c.args.out.now.items c.loop-attempt.out.items c.write_failure.new.out.items
    c.loop-attempt-test.true c.loop-attempt.invariant c.in_ok-write_failure.ensures
