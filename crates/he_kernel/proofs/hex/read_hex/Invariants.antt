use Rattle.std.proofs.Common.{◌≡◌, ◌<◌, ◌^◌, drop}
use Rattle.he_kernel.specs.Hex.{hex_after}
use Rattle.he_kernel.proofs.hex.read_hex.Given as goal

-- the digits read so far and those to come make the number of all
abbrev pub invariant-loop-byte : goal.invariant-loop-byte
invariant-loop-byte l = record {
  same : hex_after l.value (drop l.byte-index l.text) ≡ hex_after 0 l.text;
  small : l.value < 16 ^ l.byte-index;
}
