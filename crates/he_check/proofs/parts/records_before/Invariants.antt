use Rattle.std.proofs.Common.{◌-◌, ◌≤◌}
use Rattle.he_check.proofs.RecordLines.{ArePassed}
use Rattle.he_check.proofs.parts.records_before.Given as goal

abbrev pub invariant-loop-passed : goal.invariant-loop-passed
invariant-loop-passed l = ArePassed l.fn.part.text.now l.passed.bytes l.passed.lines × (l.passed.lines ≤ l.before)

abbrev pub decreases-loop-passed : goal.decreases-loop-passed
decreases-loop-passed l = l.before - l.passed.lines
