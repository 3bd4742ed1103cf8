use Rattle.std.proofs.Common.{arith}
use Rattle.he_plan.proofs.Ended.{all_tried}
use Rattle.he_plan.proofs.transcript.are_tried_out.Goals as goal

pub returns-then-has_room : goal.returns-then-has_room
returns-then-has_room g c =
    all_tried c.args.timeline.now c.has_room.ensures.race c.args.attempts.now (record { tick = c.args.aaaa.0; addresses = c.args.aaaa.1.now }) (record { tick = c.args.a.0; addresses = c.args.a.1.now }) c.max-answered.result (omega arith) (omega arith) c.requires.are c.requires.six c.requires.four (c.has_room.ensures.room c.if-has_room.true)
