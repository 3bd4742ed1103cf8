use Rattle.std.proofs.Common.{◌∙◌, ap, length}
use Rattle.he_plan.proofs.Told.{told-all, told-is, length-told}
use Rattle.he_plan.proofs.transcript.transcript_of_fates.Goals as goal

pub told_lines-requires : goal.told_lines-requires
told_lines-requires g c = ap length c.attempts-attempts.ensures ∙ length-told c.args.timeline.now c.args.fates.now c.args.plan.now c.args.fates.now c.requires.fates

pub returns : goal.returns
returns g c =
    rw (c.new.ensures, c.in_ok-lines.ensures, c.stop-stop.ensures.value, c.ending-ending.ensures, c.attempts-attempts.ensures)
    (told-is c.args.timeline.now c.stop-stop.ensures.race c.args.plan.now c.args.fates.now c.args.winner c.requires)

pub ending-ending-requires : goal.ending-ending-requires
ending-ending-requires g c = rw c.attempts-attempts.ensures (told-all c.args.timeline.now c.args.plan.now c.args.fates.now c.args.winner c.requires)
