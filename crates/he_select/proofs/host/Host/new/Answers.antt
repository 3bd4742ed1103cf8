use Rattle.std.proofs.Common.{◌≡◌, sym, subst, rules, List}
use Rattle.std.specs.Prelude.{None}
use Rattle.he_select.specs.declared.host.Route.{Route}
use Rattle.he_select.specs.declared.host.Source.{Source}
use Rattle.he_select.specs.Hosts.{IsHost}
use Rattle.he_select.proofs.Hosted.{host_by}
use Rattle.he_select.proofs.host.Host.new.Goals as goal

pub invariant_of-result : goal.invariant_of-result
invariant_of-result g c =
    let sources : c.in_ok-sources.sources.items ≡ c.args.sources.now = search rules in
    let routes : c.in_ok-routes.routes.items ≡ c.args.routes.now = search rules in
    let none : c.find.result ≡ None = c.in_default.is in
    let given = host_by (record { sources = c.args.sources.now; routes = c.args.routes.now }) c.find.result c.find.ensures none in
    subst (λ (l : List Source). IsHost (record { sources = l; routes = c.in_ok-routes.routes.items })) (sym sources)
    (subst (λ (l : List Route). IsHost (record { sources = c.args.sources.now; routes = l })) (sym routes) given)
