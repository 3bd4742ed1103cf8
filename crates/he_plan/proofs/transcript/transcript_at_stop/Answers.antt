use Rattle.he_plan.proofs.Stopping.{known-all, length-known, stopped-is}
use Rattle.he_plan.proofs.transcript.transcript_at_stop.Goals as goal

pub ending-ending-requires : goal.ending-ending-requires
ending-ending-requires g c = known-all c.args.timeline.now c.args.attempts.now c.args.known.now c.args.winner c.requires

pub told_lines-requires : goal.told_lines-requires
told_lines-requires g c = length-known c.args.timeline.now c.args.attempts.now c.args.known.now c.args.winner c.requires

pub returns-clause-transcript : goal.returns-clause-transcript
returns-clause-transcript g c =
    rw (c.new.ensures, c.in_ok-lines.ensures, c.stop-stop.ensures.value, c.ending-ending.ensures)
    (stopped-is c.args.timeline.now c.stop-stop.ensures.race c.are_addresses_in_range.ensures.six c.are_addresses_in_range.ensures.four c.args.attempts.now c.args.known.now c.args.winner c.requires)
