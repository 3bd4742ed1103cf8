use Rattle.std.proofs.Common.{◌≡◌, ◌+◌, ◌≤◌, length, drop}
use Rattle.he_addr.specs.Printing.{zeros, longest}
use Rattle.he_addr.proofs.printing.longest_run.Given as goal

-- what is known of the groups from `start` on
abbrev pub invariant-loop-start : goal.invariant-loop-start
invariant-loop-start l = record {
  eight : length l.groups ≡ 8;
  here : l.len ≡ zeros (drop l.start l.groups);
  best_start : l.best.start ≡ l.start + (longest (drop l.start l.groups)).start;
  best_len : l.best.len ≡ (longest (drop l.start l.groups)).len;
  within : l.best.start + l.best.len ≤ 8;
}
