use borrow.Author.Tests.{tests}
use Rattle.std.proofs.Common.{◌≡◌, ◌∙◌, IfOk, ℕ, rules, subst}
use Rattle.std.proofs.lemmas.Iterator.{YieldsList-from_map, YieldsList-from_slice, YieldsList-from_zip, items_from_collect}
use Rattle.std.proofs.lemmas.Iterator.Consumers.{YieldsList-at}
use Rattle.he_totals.specs.Hosts.{Named, at_host, at_hosts}
use Rattle.he_totals.specs.declared.kept.Kept.{Kept}
use Rattle.he_totals.proofs.hosts.Hosts.places_of.Goals as goal

pub returns : goal.returns
returns g c =
    let road = YieldsList-from_zip (YieldsList-at c.zip.ensures.first (YieldsList-from_slice c.self.inside.places.items (c.iter.ensures.rest ∙ c.deref.ensures.value)))
    (YieldsList-at c.zip.ensures.second (YieldsList-from_slice c.args.kept.now c.iter-2.ensures.rest)) in
    subst (λ (n : Named). IfOk c.collect.result (λ placed. placed.items ≡ at_hosts n.places c.args.kept.now)) c.self.view_is
    (items_from_collect c.collect.result c.collect.ensures.ran
    (YieldsList-from_map _ (λ (placed : ℕ × Kept). at_host placed.0 placed.1) (YieldsList-at c.map.ensures.source road) c.map.ensures.closure (λ x r q k. search (rules, tests))))
