use Rattle.std.proofs.Common.{◌≡◌, drop, ◌++◌}
use Rattle.he_select.specs.DestinationKeys.{keys_of}
use Rattle.he_select.proofs.sorting.keys_of.Given as goal

abbrev pub invariant-loop-place : goal.invariant-loop-place
invariant-loop-place g l = l.keys.items ++ keys_of l.place (drop l.place l.all_attributes) ≡ keys_of 0 l.all_attributes
