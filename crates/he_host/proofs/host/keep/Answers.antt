use Rattle.std.proofs.Common.{List, [], map, ◌∙◌, ap}
use Rattle.he_select.specs.HostFaults.{host_fault}
use Rattle.he_select.specs.declared.host.Route.{Route}
use Rattle.he_select.specs.declared.host.Source.{Source}
use Rattle.he_host.specs.Gathering.{route_read, source_read}
use Rattle.he_kernel.specs.Keeping.{routes_kept, sources_kept}
use Rattle.he_kernel.proofs.Kept.{kept_is_host}
use Rattle.he_host.proofs.host.keep.Goals as goal

-- what is kept is a host's
pub make_host-host-requires : goal.make_host-host-requires
make_host-host-requires g c =
    ap (λ (l : List Source). host_fault l c.keep_routes.new.kept.items) (c.in_ok-keep_sources.ensures.kept ∙ ap (λ (l : List Source). sources_kept l (map source_read c.args.turn.now)) c.new-sources.ensures.items)
    ∙ ap (λ (l : List Route). host_fault (sources_kept [] (map source_read c.args.turn.now)) l) (c.in_ok-keep_routes.ensures.kept ∙ ap (λ (l : List Route). routes_kept l (map route_read c.args.routes.now)) c.new-kept.ensures.items)
    ∙ kept_is_host (map source_read c.args.turn.now) (map route_read c.args.routes.now)
