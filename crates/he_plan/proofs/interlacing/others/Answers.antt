use Rattle.std.proofs.Common.{not, sym, ◌∙◌, ap}
use Rattle.he_addr.specs.declared.ip.Ip.{Ip}
use Rattle.he_timeline.specs.Timeline.{is_of}
use Rattle.he_plan.proofs.Kept.{kept_next, left_next}
use Rattle.he_plan.proofs.interlacing.others.Goals as goal
use Rattle.he_plan.proofs.interlacing.others.Goals.{then-not-is_of+in_ok-push, else-not-is_of}

pub loop-ip-preserved : goal.loop-ip-preserved
loop-ip-preserved g c = elim c.if-not-is_of.branch [
  | then-not-is_of+in_ok-push w ↦ ap (λ v. v.items) w.others-is ∙ kept_next (λ (ip : Ip). not (is_of c.args.family ip)) c.args.ips.now c.loop-ip.others.items _ c.loop-ip.ip-index _ c.loop-ip-test.true (ap not (sym c.is_of.ensures ∙ w.if-not-is_of.true)) c.loop-ip.invariant w.in_ok-push.ensures.items
  | else-not-is_of w ↦ ap (λ v. v.items) w.others-is ∙ left_next (λ (ip : Ip). not (is_of c.args.family ip)) c.args.ips.now c.loop-ip.others.items c.loop-ip.ip-index _ c.loop-ip-test.true (ap not (sym c.is_of.ensures ∙ w.if-not-is_of.false)) c.loop-ip.invariant
]
