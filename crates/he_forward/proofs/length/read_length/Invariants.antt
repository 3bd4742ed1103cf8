use Rattle.std.proofs.Common.{◌≡◌, ◌<◌, ◌^◌, take}
use Rattle.std.specs.Str.Parse.{digits_value}
use Rattle.he_forward.proofs.length.read_length.Given as goal

abbrev pub invariant-loop-octet : goal.invariant-loop-octet
invariant-loop-octet l = (digits_value 10 (take l.octet-index l.text) ≡ l.length) × (l.length < 2 ^ 64)
