use Rattle.he_timeline.proofs.Seen.{ahead_stops}
use Rattle.he_timeline.proofs.timeline.seen_ahead.Goals as goal

pub returns-then-seen-pause : goal.returns-then-seen-pause
returns-then-seen-pause c =
    ahead_stops c.args.pauses.now c.loop-pause.pause-index c.loop-pause.seen _ _ c.loop-pause-test.true c.loop-pause.invariant.ahead c.if-seen-pause.true c.loop-pause.invariant.same
