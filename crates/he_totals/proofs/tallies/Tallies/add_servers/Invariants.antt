use Rattle.std.proofs.Common.{◌++◌, List, map, take}
use Rattle.std.specs.List.{flat_map}
use Rattle.he_record.specs.Left.{said_of}
use Rattle.he_totals.specs.Tries.{AreTallies, Try, server_tries}
use Rattle.he_totals.proofs.tallies.Tallies.add_servers.Given as goal

abbrev pub invariant-loop-line : goal.invariant-loop-line
invariant-loop-line g l =
    (tries : List Try) → AreTallies tries l.fn.self → AreTallies (tries ++ flat_map server_tries (map said_of (take l.line-index l.line-items))) l.self
