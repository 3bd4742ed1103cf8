use Rattle.std.proofs.Common.{◌≡◌, drop, false}
use Rattle.he_forward.specs.Lengths.{ends_in_comma}
use Rattle.he_forward.proofs.length.ends_in_comma.Given as goal

abbrev pub invariant-loop-octet : goal.invariant-loop-octet
invariant-loop-octet l = ends_in_comma l.follows (drop l.octet-index l.text) ≡ ends_in_comma false l.text
