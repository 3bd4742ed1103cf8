use Rattle.std.proofs.Common.{◌≡◌, drop, map}
use Rattle.he_recording.specs.Added.{added}
use Rattle.he_recording.specs.Facts.{attempt_line}
use Rattle.he_recording.proofs.making.add_attempts.Given as goal

abbrev pub invariant-loop-attempt : goal.invariant-loop-attempt
invariant-loop-attempt l = added l.told (map attempt_line (drop l.attempt-index l.attempts)) ≡ added l.fn.told (map attempt_line l.attempts)
