use Rattle.std.proofs.Common.{◌≡◌, true, drop}
use Rattle.he_options.specs.Ports.{are_apart}
use Rattle.he_options.proofs.port.are_apart.Given as goal

abbrev pub invariant-loop-byte : goal.invariant-loop-byte
invariant-loop-byte l = are_apart l.is_behind (drop l.byte-index l.name) ≡ are_apart true l.name
