use Rattle.std.proofs.Common.{◌≡◌, true, drop}
use Rattle.he_proxy_request.specs.Rules.{are_apart}
use Rattle.he_proxy_request.proofs.rules.are_apart.Given as goal

abbrev pub invariant-loop-byte : goal.invariant-loop-byte
invariant-loop-byte l = are_apart l.is_behind (drop l.byte-index l.text) ≡ are_apart true l.text
