use Rattle.std.proofs.Common.{List, sym, subst}
use Rattle.he_plan.specs.declared.finish.Fate.{Fate}
use Rattle.he_plan.specs.Finish.{IsWinner}
use Rattle.he_plan.proofs.Planned.{ticks_next}
use Rattle.he_plan.proofs.Stopped.{fates_before}
use Rattle.he_plan.proofs.planning.run_to_stop.Goals as goal

pub winner_with_last-winner-requires : goal.winner_with_last-winner-requires
winner_with_last-winner-requires g c =
    rw c.fates.ensures
    (subst (λ (fates : List Fate). IsWinner fates c.loop-tick.winner)
    (sym (fates_before c.args.timeline.now c.loop-tick.underway c.start.new.self c.in-Some.tick c.loop-tick.invariant.kept.fates c.in_ok-start.ensures.underway.fates c.in_ok-start.ensures.made))
    c.loop-tick.invariant.wins)

pub loop-tick-smaller : goal.loop-tick-smaller
loop-tick-smaller g c = ticks_next c.args.timeline.now c.unbeaten_tick.ensures.race c.loop-tick.underway.attempts c.start.new.self.attempts c.in-Some.tick c.in_ok-start.ensures.made
