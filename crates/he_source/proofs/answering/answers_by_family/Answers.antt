use Rattle.std.proofs.Common.{subst, sym}
use Rattle.std.specs.Prelude.{Some}
use Rattle.he_addr.specs.declared.ip.Family.TheVariants.{V4, V6}
use Rattle.he_resolver.specs.Begins.{BeginsFor}
use Rattle.he_settings.specs.Known.{FindsKnown}
use Rattle.he_source.proofs.Asked.{begins_known, source_for}
use Rattle.he_source.proofs.answering.answers_by_family.Goals as goal

pub returns : goal.returns
returns g c = λ knows.
    let request = c.args.setup.now.request in
    let host = request.host.now in
    let finds = subst (λ known. FindsKnown host request.resolver known) (sym c.as_deref-known.ensures.value) knows in
    let six = source_for request (λ source. BeginsFor host request.resolver request.environment (Some V6) source) host c.in_ok-six.six
    c.in_ok-source.source c.in_ok-source.ensures c.in_ok-six.ensures.host
    (begins_known request host (Some V6) _ _ finds c.in_ok-six.ensures.begins) in
    let four = begins_known request host (Some V4) _ _ finds c.in_ok-four.ensures.begins in
    (six.0, six.1, (c.in_ok-four.ensures.host, four), (c.in_ok-prefixes.ensures.host, c.in_ok-prefixes.ensures.begins))
