use Rattle.std.proofs.Common.{◌≡◌, ◌+◌, ◌<◌, Some, sym, ◌∙◌, ap, arith}
use Rattle.he_timeline.specs.Race.{outcome_of}
use Rattle.he_plan.specs.Finish.{fate_by}
use Rattle.he_timeline.specs.Timeline.{duration_of}
use Rattle.he_plan.proofs.Finishing.{late_runs}
use Rattle.he_plan.proofs.finish.fate_by_limit.Goals as goal

pub returns-in_default-checked_add-clause-value : goal.returns-in_default-checked_add-clause-value
returns-in_default-checked_add-clause-value g c =
    let told : outcome_of c.args.timeline.now c.args.attempt.now.ip ≡ Some c.in-Some.outcome = sym c.outcome.ensures.value ∙ c.in-Some.is in
    let late : c.args.timeline.now.settings.limit < c.args.attempt.now.tick + duration_of c.in-Some.outcome = omega (arith, c.duration.ensures, c.in_default-checked_add.ensures, c.limit-limit.ensures.value) in
    sym (ap (fate_by c.args.timeline.now c.args.attempt.now.tick) told ∙ late_runs c.args.timeline.now c.settings.ensures.race c.args.attempt.now.tick c.in-Some.outcome late)
