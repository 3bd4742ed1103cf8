use Rattle.std.proofs.Common.{◌≡◌, ◌++◌, drop}
use Rattle.std.specs.List.{flat_map}
use Rattle.he_record.specs.Given.{untried_of}
use Rattle.he_record.specs.Left.{said_of}
use Rattle.he_record.proofs.records.untried_on.Given as goal

abbrev pub invariant-loop-line : goal.invariant-loop-line
invariant-loop-line g l =
    l.ips.items ++ flat_map (λ line. untried_of (said_of line)) (drop l.line-index l.lines)
    ≡ flat_map (λ line. untried_of (said_of line)) l.lines
