use Rattle.std.proofs.Common.{◌≡◌, ◌++◌, drop}
use Rattle.he_turns.specs.Heard.{ips_of}
use Rattle.he_history.proofs.known.tell_from.Given as goal

abbrev pub invariant-loop-one : goal.invariant-loop-one
invariant-loop-one g l = ips_of l.told.items ++ ips_of (drop l.one-index l.known) ≡ ips_of l.known
