use Rattle.std.proofs.Common.{◌≡◌, drop, map}
use Rattle.he_recording.specs.Added.{added}
use Rattle.he_recording.specs.Facts.{nat64_line}
use Rattle.he_recording.proofs.making.add_nat64.Given as goal

abbrev pub invariant-loop-prefix : goal.invariant-loop-prefix
invariant-loop-prefix l = added l.told (map nat64_line (drop l.prefix-index l.prefixes)) ≡ added l.fn.told (map nat64_line l.prefixes)
