use Rattle.std.proofs.Common.{◌-◌, length}
use Rattle.he_c.specs.Outputs.{IsTextOf}
use Rattle.he_c.specs.Telling.{HasTold}
use Rattle.he_c.proofs.telling.output_of.Given as goal

abbrev pub invariant-loop-found : goal.invariant-loop-found
invariant-loop-found l = HasTold (IsTextOf l.fn.content) l.fn.input l.text.items l.reader

abbrev pub decreases-loop-found : goal.decreases-loop-found
decreases-loop-found l = length l.fn.input - l.reader.end
