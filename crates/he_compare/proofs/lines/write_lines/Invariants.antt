use Rattle.std.proofs.Common.{ℕ, List, drop}
use Rattle.he_compare.specs.Lines.{AreLines}
use Rattle.he_compare.specs.declared.verdict.Finish.TheVariants.{NotWon}
use Rattle.he_compare.proofs.lines.write_lines.Given as goal

abbrev pub invariant-loop-race : goal.invariant-loop-race
invariant-loop-race g l =
    (new : List ℕ) → AreLines l.form l.own (drop l.race-index l.kept) l.text.items new → AreLines l.form NotWon l.kept l.fn.text.items new
