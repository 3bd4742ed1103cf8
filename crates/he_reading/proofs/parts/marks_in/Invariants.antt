use Rattle.std.proofs.Common.{◌≡◌, ◌≤◌, length, drop, eqb, ◌+◌, ◌-◌}
use Rattle.std.specs.List.{count_by}
use Rattle.he_reading.proofs.parts.marks_in.Given as goal

abbrev pub invariant-loop-at : goal.invariant-loop-at
invariant-loop-at l = (l.at ≤ length l.text) × (l.found + count_by (λ b. eqb b l.mark) (drop l.at l.text) ≡ count_by (λ b. eqb b l.mark) l.text)

abbrev pub decreases-loop-at : goal.decreases-loop-at
decreases-loop-at l = length l.text - l.at
