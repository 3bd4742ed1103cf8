use Rattle.std.proofs.Common.{List, Ok, ◌≡◌, ◌∙◌, ap}
use Rattle.he_select.specs.HostFaults.{host_of}
use Rattle.he_select.specs.declared.host.Route.{Route}
use Rattle.he_select.specs.declared.host.Source.{Source}
use Rattle.he_turns.specs.Heard.{lists_of, widened, with_routes, with_sources}
use Rattle.he_turns.proofs.Widening.{wider-made}
use Rattle.he_turns.proofs.lines.widened.Goals as goal

pub unreachable-requires : goal.unreachable-requires
unreachable-requires c =
    let made : host_of c.in_ok-sources.sources.items c.in_ok-routes.routes.items ≡ Ok (widened c.args.family (lists_of c.args.told.now) c.args.host.now) =
    wider-made c.args.family (lists_of c.args.told.now) c.args.host.now c.requires c.in_ok-sources.sources.items c.in_ok-routes.routes.items
    (c.in_ok-sources.ensures ∙ ap (λ (xs : List Source). with_sources c.args.family xs c.deref.result.now) c.sources.ensures.sources ∙ ap (with_sources c.args.family c.args.host.now.sources) c.deref.ensures.value)
    (c.in_ok-routes.ensures ∙ ap (λ (xs : List Route). with_routes c.args.family xs c.deref-2.result.now) c.routes.ensures.routes ∙ ap (with_routes c.args.family c.args.host.now.routes) c.deref-2.ensures.value) in
    cc (c.from_lists.ensures, made, c.in-Err.is)
