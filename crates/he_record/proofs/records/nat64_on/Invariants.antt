use Rattle.std.proofs.Common.{◌≡◌, ◌++◌, drop}
use Rattle.std.specs.List.{flat_map}
use Rattle.he_record.specs.Given.{nat64_of}
use Rattle.he_record.specs.Left.{said_of}
use Rattle.he_record.proofs.records.nat64_on.Given as goal

abbrev pub invariant-loop-line : goal.invariant-loop-line
invariant-loop-line g l =
    l.prefixes.items ++ flat_map (λ line. nat64_of (said_of line)) (drop l.line-index l.lines)
    ≡ flat_map (λ line. nat64_of (said_of line)) l.lines
