use Rattle.std.proofs.Common.{◌∙◌, ap, map}
use Rattle.std.proofs.lemmas.Result.{IfOk-weaker}
use Rattle.he_totals.specs.Hosts.{Named, places_of, text_at}
use Rattle.he_totals.proofs.hosts.Hosts.names_at.Goals as goal

pub returns : goal.returns
returns g c =
    IfOk-weaker c.names_of.result _ _
    (λ names is. is ∙ ap (map (text_at c.args.self.now.names)) (c.as_slice.ensures.value ∙ c.in_ok-places.ensures ∙ ap (λ (n : Named). places_of n.pairs c.args.ip) c.self.view_is))
    c.names_of.ensures
