use Rattle.std.proofs.Common.{rules, take}
use Rattle.std.specs.List.{flat_map}
use Rattle.he_words.specs.Appending.{Grows}
use Rattle.he_write.specs.Written.{host_route_text}
use Rattle.he_write.proofs.LoopLaws.{one_more, all_done}
use Rattle.he_words.proofs.Appending.{grows_after}
use Rattle.he_write.proofs.timelines.write_routes.Goals as goal

pub returns-in_err-write_route : goal.returns-in_err-write_route
returns-in_err-write_route g c =
    let kept : Grows c.args.out.now.items c.write_route.new.out.items =
    grows_after c.args.out.now.items (flat_map host_route_text (take c.loop-route.route-index c.args.routes.now)) c.loop-route.out.items c.write_route.new.out.items c.loop-route.invariant c.in_err-write_route.ensures in
    search rules

pub loop-route-preserved : goal.loop-route-preserved
loop-route-preserved g c =
    one_more host_route_text c.args.routes.now c.loop-route.route-index c.route-item.result c.args.out.now.items c.loop-route.out.items c.write_route.new.out.items
    c.loop-route-test.true c.route-item.is c.loop-route.invariant c.in_ok-write_route.ensures

pub returns : goal.returns
returns g c = all_done host_route_text c.args.routes.now c.loop-route.route-index c.args.out.now.items c.loop-route.out.items c.loop-route-test.false c.loop-route.invariant
