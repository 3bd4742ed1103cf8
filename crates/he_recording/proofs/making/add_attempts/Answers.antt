use Rattle.he_recording.specs.Facts.{attempt_line}
use Rattle.he_recording.proofs.Adding.{one_more}
use Rattle.he_recording.proofs.making.add_attempts.Goals as goal

pub loop-attempt-preserved : goal.loop-attempt-preserved
loop-attempt-preserved c =
    one_more attempt_line c.args.attempts.now c.loop-attempt.attempt-index _ c.args.told.now c.loop-attempt.told c.add.new.told
    c.loop-attempt-test.true c.loop-attempt.invariant c.in_ok-add.ensures
