use Rattle.std.proofs.Common.{◌≡◌, filter, map, take}
use Rattle.he_live.specs.Reasons.{has_failed, place_of, place_of_line}
use Rattle.he_live.proofs.failures.failed_attempts.Given as goal

abbrev pub invariant-loop-line : goal.invariant-loop-line
invariant-loop-line l = map place_of l.failed.items ≡ map place_of_line (filter has_failed (take l.line-index l.attempts))
