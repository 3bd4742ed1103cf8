use Rattle.he_plan.proofs.Stopped.{stopped-all, stopped-is}
use Rattle.he_plan.proofs.transcript.transcript_from.Goals as goal

pub ending-ending-requires : goal.ending-ending-requires
ending-ending-requires g c = rw c.attempts-attempts.ensures (stopped-all c.args.timeline.now c.in_ok-underway.underway c.in_ok-underway.winner c.in_ok-underway.ensures)

pub returns : goal.returns
returns g c =
    rw (c.new.ensures, c.in_ok-lines.ensures, c.stop-stop.ensures.value, c.ending-ending.ensures, c.attempts-attempts.ensures, c.fates-fates.ensures)
    (stopped-is c.args.timeline.now c.stop-stop.ensures.race c.are_addresses_in_range.ensures.six c.are_addresses_in_range.ensures.four c.in_ok-underway.underway c.in_ok-underway.winner c.in_ok-underway.ensures)
