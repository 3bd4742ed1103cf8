use Rattle.std.proofs.Common.{◌∙◌, List, ap, map}
use Rattle.he_connect.proofs.Synthesized.{comes_as, of_answers}
use Rattle.he_connect.specs.Origins.{origins_of}
use Rattle.he_course.specs.declared.addresses.Preferred.{Preferred}
use Rattle.he_probe.specs.declared.probe.ProbeRow.{ProbeRow}
use Rattle.he_timeline.specs.Building.{unrecorded}
use Rattle.he_probing.specs.Recorded.{with_probes}
use Rattle.he_probing.specs.Rows.{preferred_ip}
use Rattle.he_probing.proofs.Rounded.{if_fault, recorded_of, round-of, start_kept}
use Rattle.he_probing.proofs.round.round_of.Goals as goal

pub returns-in_err-rows : goal.returns-in_err-rows
returns-in_err-rows g c = λ knows. if_fault c.from_residual-in_err-rows.result _ c.from_residual-in_err-rows.ensures.0

pub returns : goal.returns
returns g c = λ knows.
    let probes = c.in_ok-probes.probes.items in
    let from = c.in_ok-gathered.ensures.source in
    round-of c.args.setup.now.embeds c.is_by_nat64.result c.args.setup.now.request (origins_of c.in_ok-source.source) c.args.setup.now.start c.in_ok-gathered.gathered c.in_ok-recorded.recorded c.in_ok-preferred.field-0 probes
    c.in_ok-addresses.addresses.items c.in_ok-rows.rows.items c.judge.result
    (c.in_ok-recorded.ensures ∙ ap (λ (p : List ProbeRow). with_probes (unrecorded c.in_ok-gathered.gathered) p) c.deref-7.ensures.value)
    (start_kept _ _ c.args.setup.now.start c.in_ok-gathered.gathered probes from)
    (comes_as c.args.setup.now.embeds c.args.setup.now.request c.in_ok-lookups.lookups c.in_ok-source.source c.in_ok-source.ensures.origins (c.in_ok-lookups.ensures.comes knows))
    (of_answers c.args.setup.now.start c.in_ok-source.source _ (recorded_of _ _ c.args.setup.now.start c.in_ok-gathered.gathered probes from) (c.in_ok-source.ensures.sound c.in_ok-lookups.ensures.sound))
    c.is_by_nat64.ensures
    c.in_ok-preferred.ensures
    (c.in_ok-addresses.ensures ∙ ap (λ (p : List Preferred). map preferred_ip p) c.deref.ensures.value)
    (c.in_ok-probes.ensures.ips ∙ c.in_ok-probe.ensures.addresses ∙ c.deref-2.ensures.value)
    (c.in_ok-rows.ensures ∙ c.deref-8.ensures.value)
    c.judge.ensures
