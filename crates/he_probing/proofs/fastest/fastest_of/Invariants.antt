use Rattle.std.proofs.Common.{take}
use Rattle.he_probing.specs.Fastest.{IsFastest}
use Rattle.he_probing.proofs.fastest.fastest_of.Given as goal

abbrev pub invariant-loop-row : goal.invariant-loop-row
invariant-loop-row l = record { fastest : IsFastest l.course (take l.row-index l.rows) l.fastest }
