use Rattle.std.proofs.Common.{sym, ◌∙◌, ap}
use Rattle.he_select.specs.Hosts.{same_route}
use Rattle.he_select.specs.declared.limits.TheConstants.{ROUTES}
use Rattle.he_turns.specs.Heard.{is_route_of}
use Rattle.he_turns.proofs.Widening.{route_alike, route_sym}
use Rattle.he_turns.proofs.Once.{new-left, new-next}
use Rattle.he_turns.proofs.lines.with_routes.Goals as goal
use Rattle.he_turns.proofs.lines.with_routes.Goals.{then-is_new_route+in_ok-push, else-is_new_route}

pub loop-route-preserved : goal.loop-route-preserved
loop-route-preserved c = elim c.if-is_new_route.branch [
  | then-is_new_route+in_ok-push w ↦ ap (λ v. v.items) w.all-is ∙ new-next same_route route_sym route_alike (is_route_of c.args.family) ROUTES c.args.has.now c.args.told.now c.loop-route.all.items c.loop-route.route-index c.route-item.result c.route-item.result c.route-item.is c.loop-route-test.true c.loop-route.invariant _ (sym (rw c.deref.ensures.value at c.is_new_route.ensures) ∙ w.if-is_new_route.true) w.in_ok-push.ensures.items
  | else-is_new_route w ↦ ap (λ v. v.items) w.all-is ∙ new-left same_route route_sym route_alike (is_route_of c.args.family) ROUTES c.args.has.now c.args.told.now c.loop-route.all.items c.loop-route.route-index c.route-item.result c.route-item.result c.route-item.is c.loop-route-test.true c.loop-route.invariant (sym (rw c.deref.ensures.value at c.is_new_route.ensures) ∙ w.if-is_new_route.false)
]
