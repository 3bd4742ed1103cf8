use Rattle.std.proofs.Common.{◌+◌, ◌-◌, List, length, arith, subst}
use Rattle.std.proofs.lemmas.List.{take_all}
use Rattle.he_plan.specs.declared.finish.Fate.{Fate}
use Rattle.he_plan.specs.Finish.{IsWinner}
use Rattle.he_plan.proofs.Finishing.{winner_step}
use Rattle.he_plan.proofs.planning.winner_with_last.Goals as goal

pub returns-in-len1-up : goal.returns-in-len1-up
returns-in-len1-up c =
    subst (λ (fates : List Fate). IsWinner fates c.next_winner.result) (take_all (length c.args.fates.now - 1 + 1) c.args.fates.now (omega (arith, c.in-len1-up.len_at_least)))
    (winner_step c.args.fates.now (length c.args.fates.now - 1) _ c.args.winner c.next_winner.result (omega (arith, c.in-len1-up.len_at_least)) c.next_winner.ensures c.requires)
