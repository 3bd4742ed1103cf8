use Rattle.std.proofs.Common.{◌≡◌, ◌<◌, ◌^◌, drop}
use Rattle.he_addr.specs.Reading.{digits_after}
use Rattle.he_addr.proofs.decimal.read_digits.Given as goal

-- the digits read so far and those to come make the number of all
abbrev pub invariant-loop-byte : goal.invariant-loop-byte
invariant-loop-byte l = record {
  same : digits_after l.value (drop l.byte-index l.text) ≡ digits_after 0 l.text;
  small : l.value < 10 ^ l.byte-index;
}
