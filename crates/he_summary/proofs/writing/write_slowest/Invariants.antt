use Rattle.std.proofs.Common.{List, ℕ, drop, map}
use Rattle.he_summary.specs.Written.{TellsEach, slow_facts}
use Rattle.he_summary.proofs.writing.write_slowest.Given as goal

abbrev pub invariant-loop-race : goal.invariant-loop-race
invariant-loop-race g l =
    (new : List ℕ) → TellsEach (map (slow_facts l.form) (drop l.race-index l.slow)) l.text.items new → TellsEach (map (slow_facts l.form) l.slow) l.fn.text.items new
