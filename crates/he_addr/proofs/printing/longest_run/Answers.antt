use Rattle.std.proofs.Common.{◌-◌, drop, arith}
use Rattle.std.proofs.lemmas.Grind.{common_steps}
use Rattle.std.proofs.lemmas.List.{length-drop}
use Rattle.he_addr.proofs.Runs.{zeros-le}
use Rattle.he_addr.proofs.printing.longest_run.Goals as goal

pub overflow_add-len : goal.overflow_add-len
overflow_add-len c = omega (arith, c.loop-start.invariant.here, zeros-le (drop c.loop-start.start c.args.groups.now), length-drop c.loop-start.start c.args.groups.now)

pub loop-start-preserved-then-len-best : goal.loop-start-preserved-then-len-best
loop-start-preserved-then-len-best c =
    let rest = drop (c.loop-start.start - 1) c.args.groups.now in
    grind (arith, common_steps, zeros-le rest, length-drop (c.loop-start.start - 1) c.args.groups.now)
