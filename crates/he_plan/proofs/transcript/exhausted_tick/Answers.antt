use Rattle.std.proofs.Common.{◌∙◌, ap}
use Rattle.he_plan.specs.Planning.{last_failure}
use Rattle.he_plan.proofs.Told.{last_failure-is}
use Rattle.he_plan.proofs.transcript.exhausted_tick.Goals as goal

pub returns : goal.returns
returns c = c.last_failure.ensures ∙ ap (λ tick. last_failure tick c.args.fates.now) c.max.ensures ∙ last_failure-is c.args.aaaa_seen c.args.a_seen c.args.fates.now
