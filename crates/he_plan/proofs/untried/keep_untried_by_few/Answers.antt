use Rattle.std.proofs.Common.{rules}
use Rattle.std.proofs.lemmas.Fn.{filter_same}
use Rattle.he_plan.specs.Attempts.{is_untried}
use Rattle.he_plan.proofs.untried.keep_untried_by_few.Goals as goal

pub returns : goal.returns
returns g c = filter_same _ (is_untried c.args.done.now) _ (λ x b f' k. search rules) _ _ c.retain.ensures.filtered
