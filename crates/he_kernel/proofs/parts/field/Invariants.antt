use Rattle.std.proofs.Common.{◌≡◌, length}
use Rattle.he_kernel.specs.Parts.{field_among, field_of, parts_left}
use Rattle.he_kernel.proofs.parts.field.Given as goal

-- the field is the one at the place that is left among the parts that are left
abbrev pub invariant-loop-part : goal.invariant-loop-part
invariant-loop-part l = field_among l.left (parts_left l.parts) ≡ field_of l.fn.place l.fn.line

abbrev pub decreases-loop-part : goal.decreases-loop-part
decreases-loop-part l = length (parts_left l.parts)
