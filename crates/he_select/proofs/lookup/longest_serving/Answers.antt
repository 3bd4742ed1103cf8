use Rattle.std.proofs.Common.{arith}
use Rattle.std.proofs.lemmas.Grind.{common_steps}
use Rattle.he_select.proofs.lookup.longest_serving.Goals as goal

pub returns : goal.returns
returns c = grind (arith, common_steps, c.loop-route.invariant, c.copied.ensures)
