use Rattle.std.proofs.Common.{◌+◌, ◌-◌, ◌*◌, ◌≤◌, length, drop}
use Rattle.he_addr.specs.Prepending.{Prepends}
use Rattle.he_addr.specs.Printed.{joined}
use Rattle.he_addr.proofs.printing.prepend_groups.Given as goal

-- the groups from `place` on stand
abbrev pub invariant-loop-place : goal.invariant-loop-place
invariant-loop-place l = record {
  written : Prepends l.fn.buffer l.end l.buffer l.start (joined (drop l.place l.groups));
  near : l.end ≤ l.start + (5 * (length l.groups - l.place) - 1);
}
