use Rattle.std.proofs.Common.{◌≡◌, ◌++◌, take}
use Rattle.he_write.specs.Writing.{attributes_lines}
use Rattle.he_write.proofs.orders.write_places.Given as goal

abbrev pub invariant-loop-place : goal.invariant-loop-place
invariant-loop-place g l = l.out.items ≡ l.fn.out.items ++ attributes_lines 0 (take l.place l.sorted)
