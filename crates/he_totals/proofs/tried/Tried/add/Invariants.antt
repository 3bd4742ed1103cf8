use Rattle.std.proofs.Common.{◌≡◌, drop, map}
use Rattle.std.specs.List.{fold}
use Rattle.he_totals.specs.Hosts.{with_pair}
use Rattle.he_totals.proofs.tried.Tried.add.Given as goal

abbrev pub invariant-loop-line : goal.invariant-loop-line
invariant-loop-line g l =
    fold with_pair l.self (map (λ line. (line.ip, l.host)) (drop l.line-index l.lines))
    ≡ fold with_pair l.fn.self (map (λ line. (line.ip, l.host)) l.lines)
