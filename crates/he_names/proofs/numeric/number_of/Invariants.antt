use Rattle.std.proofs.Common.{◌≡◌, drop}
use Rattle.he_names.specs.Numeric.{digits_after}
use Rattle.he_names.proofs.numeric.number_of.Given as goal

-- the digits read so far and those to come make the number of all
abbrev pub invariant-loop-byte : goal.invariant-loop-byte
invariant-loop-byte l = digits_after l.radix l.value (drop l.byte-index l.digits) ≡ digits_after l.radix 0 l.digits
