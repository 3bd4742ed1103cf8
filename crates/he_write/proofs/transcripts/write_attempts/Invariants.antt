use Rattle.std.proofs.Common.{◌≡◌, ◌++◌, take}
use Rattle.he_write.specs.Written.{attempts_text}
use Rattle.he_write.proofs.transcripts.write_attempts.Given as goal

abbrev pub invariant-loop-line : goal.invariant-loop-line
invariant-loop-line g l = l.out.items ≡ l.fn.out.items ++ attempts_text (take l.line-index l.lines)
