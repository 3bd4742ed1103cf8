use Rattle.std.proofs.Common.{◌≡◌, ◌++◌, ◌+◌, ◌≤◌, map, length}
use Rattle.he_kernel.specs.Lines.{numbered, numbered_from, plain}
use Rattle.he_kernel.specs.Parts.{parts_left}
use Rattle.he_kernel.proofs.lines.read_lines.Given as goal

-- the lines kept so far and those to come are all, and there are no more lines than the text has bytes, and one
abbrev pub invariant-loop-part : goal.invariant-loop-part
invariant-loop-part g l = record {
  same : map plain l.lines.items ++ numbered_from (l.number + 1) (parts_left l.parts) ≡ numbered l.text;
  few : l.number + length (parts_left l.parts) ≤ length l.text + 1;
}

abbrev pub decreases-loop-part : goal.decreases-loop-part
decreases-loop-part g l = length (parts_left l.parts)
