use Rattle.std.proofs.Common.{◌≡◌, ◌≤◌, ◌⊎◌, ◌++◌, drop, length, inl, inr, arith}
use Rattle.std.proofs.lemmas.Grind.{common_steps}
use Rattle.he_plan.specs.Alternating.{alternate}
use Rattle.he_plan.proofs.Alternation.{alternate-whole}
use Rattle.he_plan.proofs.interlacing.alternate.Goals as goal
use Rattle.he_plan.proofs.interlacing.alternate.Goals.{then-loop-i-test+else-i-leading, else-loop-i-test}

pub returns : goal.returns
returns g c =
    let out : (length c.args.other.now ≤ c.loop-i.i) ⊎ (length c.args.leading.now ≤ c.loop-i.i) = elim c.loop-i-test.branch [ then-loop-i-test+else-i-leading w ↦ inr w.if-i-leading.false | else-loop-i-test w ↦ inl w.loop-i-test.false ] in
    let whole : (c.loop-i.interlaced.items ++ drop c.loop-i.i c.args.other.now) ++ drop c.loop-i.i c.args.leading.now ≡ c.args.interlaced.now.items ++ alternate c.args.other.now c.args.leading.now = alternate-whole c.loop-i.interlaced.items (c.args.interlaced.now.items ++ alternate c.args.other.now c.args.leading.now) c.args.other.now c.args.leading.now c.loop-i.i out c.loop-i.invariant.items in
    grind (arith, common_steps, c.in_ok-extend_from_slice.ensures.items)
