use Rattle.std.proofs.Common.{◌≡◌, ◌++◌, drop, map}
use Rattle.he_draw.specs.Rows.{attempt_row}
use Rattle.he_draw.proofs.rows.push_attempts.Given as goal

abbrev pub invariant-loop-line : goal.invariant-loop-line
invariant-loop-line g l =
    l.rows.items ++ map (attempt_row l.recorded l.delay) (drop l.line-index l.lines)
    ≡ l.fn.rows.items ++ map (attempt_row l.recorded l.delay) l.lines
