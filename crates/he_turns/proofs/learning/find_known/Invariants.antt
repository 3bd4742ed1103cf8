use Rattle.std.proofs.Common.{◌≡◌, drop}
use Rattle.he_select.specs.Selection.{known_of}
use Rattle.he_turns.proofs.learning.find_known.Given as goal

abbrev pub invariant-loop-one : goal.invariant-loop-one
invariant-loop-one l = known_of (drop l.one-index l.told) l.ip ≡ known_of l.told l.ip
