use Rattle.std.proofs.Common.{◌≡◌, ◌++◌, drop}
use Rattle.he_compare.specs.Verdicts.{verdicts_on}
use Rattle.he_compare.specs.declared.verdict.Finish.TheVariants.{NotWon}
use Rattle.he_compare.proofs.verdict.verdicts_on.Given as goal

abbrev pub invariant-loop-race : goal.invariant-loop-race
invariant-loop-race g l = l.verdicts.items ++ verdicts_on l.row l.own (drop l.race-index l.kept) ≡ verdicts_on l.row NotWon l.kept
