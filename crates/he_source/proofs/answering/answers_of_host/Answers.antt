use Rattle.std.proofs.Common.{subst, sym}
use Rattle.std.specs.Prelude.{option_map}
use Rattle.he_settings.specs.Known.{FindsKnown}
use Rattle.he_setup.specs.Races.{only_of}
use Rattle.he_source.specs.Kept.{BeginsBy, BeginsKnown}
use Rattle.he_source.proofs.Asked.{are_kept, begins_kept, source_for}
use Rattle.he_source.proofs.answering.answers_of_host.Goals as goal

pub returns : goal.returns
returns g c = λ knows.
    let request = c.args.setup.now.request in
    let host = request.host.now in
    let made = c.in_ok-lookup.lookup in
    let finds = subst (λ known. FindsKnown host request.resolver known) (sym c.as_deref-own.ensures.value) knows in
    let asks = subst (λ only. BeginsKnown request host only (option_map (λ known. known.now) c.or-known.result) made.answers.lookup.source)
    c.only.ensures c.in_ok-lookup.ensures.begins in
    let begins = subst (λ known. BeginsKnown request host (only_of request.families) (option_map (λ known. known.now) known) made.answers.lookup.source)
    c.or-known.ensures asks in
    source_for request (λ source. BeginsBy request source) host made c.in_ok-source.source c.in_ok-source.ensures c.in_ok-lookup.ensures.host
    (begins_kept request c.in_ok-ips.ips c.as_deref-shown.result c.as_deref-own.result made.answers.lookup.source
    c.as_deref-shown.ensures.value
    (are_kept request c.kept_host-kept.result c.in_ok-ips.ips c.kept_host-kept.ensures c.in_ok-ips.ensures) finds begins)
