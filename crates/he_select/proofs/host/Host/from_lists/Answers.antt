use Rattle.std.proofs.Common.{◌≡◌, ◌∙◌, ap, List}
use Rattle.std.specs.Prelude.{None}
use Rattle.he_select.specs.declared.host.Route.{Route}
use Rattle.he_select.specs.declared.host.Source.{Source}
use Rattle.he_select.specs.HostFaults.{host_fault}
use Rattle.he_select.proofs.Hosted.{host_by}
use Rattle.he_select.proofs.host.Host.from_lists.Goals as goal

pub invariant_of-result : goal.invariant_of-result
invariant_of-result g c =
    let none : c.find.result ≡ None = c.in_default.is in
    let found : c.find.result ≡ host_fault c.args.sources.items c.args.routes.items =
    c.find.ensures ∙ ap (λ (l : List Source). host_fault l c.deref-2.result.now) c.deref.ensures.value ∙ ap (λ (l : List Route). host_fault c.args.sources.items l) c.deref-2.ensures.value in
    host_by (record { sources = c.args.sources.items; routes = c.args.routes.items }) c.find.result found none
