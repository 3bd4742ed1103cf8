use Rattle.std.proofs.Common.{◌≡◌, ◌&&◌, drop}
use Rattle.std.specs.Str.{bytes_eq}
use Rattle.he_users.proofs.users.is_same.Given as goal

-- the octets from here on decide, if those before are alike
abbrev pub invariant-loop-at : goal.invariant-loop-at
invariant-loop-at l = (l.is_same && bytes_eq (drop l.at l.given) (drop l.at l.own)) ≡ bytes_eq l.given l.own
