use Rattle.std.proofs.Common.{◌-◌, length}
use Rattle.he_record.proofs.TakenLines.{IsSoFar}
use Rattle.he_record.proofs.reading.read_record.Given as goal

abbrev pub invariant-loop-told : goal.invariant-loop-told
invariant-loop-told g l = IsSoFar l.fn.text l.told l.end

abbrev pub decreases-loop-told : goal.decreases-loop-told
decreases-loop-told g l = length l.fn.text - l.end
