use Rattle.std.proofs.Common.{arith}
use Rattle.he_plan.proofs.Told.{told_more}
use Rattle.he_plan.proofs.transcript.told_lines.Goals as goal

pub loop-i-preserved : goal.loop-i-preserved
loop-i-preserved g c =
    told_more c.args.stop c.args.winner c.args.attempts.now c.args.fates.now c.loop-i.i _ _ c.loop-i.lines.items _ _ c.loop-i-test.true (omega (arith, c.requires, c.loop-i-test.true)) c.loop-i.invariant c.in_ok-push_line.ensures
