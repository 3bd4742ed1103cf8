use Rattle.std.proofs.Common.{take}
use Rattle.he_plan.specs.Finish.{IsWinner}
use Rattle.he_plan.proofs.finish.winner.Given as goal

abbrev pub invariant-loop-place : goal.invariant-loop-place
invariant-loop-place l = IsWinner (take l.place l.fates) l.best
