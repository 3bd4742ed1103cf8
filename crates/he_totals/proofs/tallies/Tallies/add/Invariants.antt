use Rattle.std.proofs.Common.{◌++◌, List, map, take}
use Rattle.std.specs.List.{zip}
use Rattle.he_totals.specs.Tries.{AreTallies, Try, try_of}
use Rattle.he_totals.proofs.tallies.Tallies.add.Given as goal

abbrev pub invariant-loop-place : goal.invariant-loop-place
invariant-loop-place g l =
    (tries : List Try) → AreTallies tries l.fn.self → AreTallies (tries ++ map (try_of l.told l.race) (take l.place (zip l.lines l.charges))) l.self
