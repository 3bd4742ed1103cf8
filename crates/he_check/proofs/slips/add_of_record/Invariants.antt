use Rattle.std.proofs.Common.{◌≡◌, ◌+◌, ◌++◌, drop, map}
use Rattle.he_record.specs.Left.{said_of}
use Rattle.he_check.specs.Slips.{record_warnings}
use Rattle.he_check.proofs.slips.add_of_record.Given as goal

abbrev pub invariant-loop-told : goal.invariant-loop-told
invariant-loop-told g l =
    (l.number ≡ l.first + l.told-index)
    × (l.warnings.items ++ record_warnings l.number l.race (map said_of (drop l.told-index l.lines)) ≡ l.fn.warnings.items ++ record_warnings l.first l.race (map said_of l.lines))
