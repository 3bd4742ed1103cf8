use Rattle.std.proofs.Common.{not, rules}
use Rattle.std.proofs.lemmas.Fn.{filter_same}
use Rattle.he_timeline.specs.Race.{has_ip}
use Rattle.he_plan.proofs.untried.keep_others.Goals as goal

pub returns : goal.returns
returns g c = filter_same _ (λ ip. not (has_ip ip c.args.tried.now.keys)) _ (λ x b f' k. search rules) _ _ c.retain.ensures.filtered
