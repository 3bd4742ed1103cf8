use Rattle.std.proofs.Common.{rules, ◌∙◌, List, Option, Some, IfSome, ap, subst, sym}
use Rattle.std.proofs.lemmas.Option.{slice_get-get_or}
use Rattle.he_plan.specs.declared.attempts.Attempt.{Attempt}
use Rattle.he_plan.specs.Attempts.{AreAttempts}
use Rattle.he_pool.proofs.Trying.{plans-at, plans-set}
use Rattle.he_pool.proofs.plans.take_plan.Goals as goal

pub returns-clause-plan : goal.returns-clause-plan
returns-clause-plan g c = λ races are race stands. plans-at races c.args.plans.now.items c.args.number race c.take.result are stands (slice_get-get_or c.args.plans.now.items c.args.number c.take.result c.requires ∙ ap (λ (m : Option (List Attempt)). Some m) (search rules))

pub returns-clause-plans : goal.returns-clause-plans
returns-clause-plans g c = λ races are. plans-set races c.args.plans.now.items c.args.number c.take.new.self are (λ race stands. subst (λ (m : Option (List Attempt)). IfSome m (AreAttempts race)) (sym c.take.ensures.after) tt)
