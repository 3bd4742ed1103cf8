use Rattle.std.proofs.Common.{arith}
use Rattle.std.proofs.lemmas.Grind.{common_steps}
use Rattle.he_timeline.proofs.Ranges.{IsRace-with_pause}
use Rattle.he_timeline.proofs.builder.TimelineBuilder.pause.Goals as goal

pub push_pause-requires : goal.push_pause-requires
push_pause-requires g c = IsRace-with_pause c.self.inside.timeline c.args.from c.args.to c.pauses.ensures.race (grind (arith, common_steps)) (grind (arith, common_steps)) (grind (arith, common_steps)) (grind (arith, common_steps))
