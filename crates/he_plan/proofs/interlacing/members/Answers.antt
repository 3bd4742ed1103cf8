use Rattle.std.proofs.Common.{sym, ◌∙◌, ap}
use Rattle.he_timeline.specs.Timeline.{is_of}
use Rattle.he_plan.proofs.Kept.{kept_next, left_next}
use Rattle.he_plan.proofs.interlacing.members.Goals as goal
use Rattle.he_plan.proofs.interlacing.members.Goals.{then-is_of+in_ok-push, else-is_of}

pub loop-ip-preserved : goal.loop-ip-preserved
loop-ip-preserved g c = elim c.if-is_of.branch [
  | then-is_of+in_ok-push w ↦ ap (λ v. v.items) w.members-is ∙ kept_next (is_of c.args.family) c.args.ips.now c.loop-ip.members.items _ c.loop-ip.ip-index _ c.loop-ip-test.true (sym c.is_of.ensures ∙ w.if-is_of.true) c.loop-ip.invariant w.in_ok-push.ensures.items
  | else-is_of w ↦ ap (λ v. v.items) w.members-is ∙ left_next (is_of c.args.family) c.args.ips.now c.loop-ip.members.items c.loop-ip.ip-index _ c.loop-ip-test.true (sym c.is_of.ensures ∙ w.if-is_of.false) c.loop-ip.invariant
]
