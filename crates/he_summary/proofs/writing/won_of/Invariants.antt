use Rattle.std.proofs.Common.{◌≡◌, ◌++◌, drop, filter}
use Rattle.he_totals.specs.Totals.{is_kind}
use Rattle.he_totals.specs.declared.totals.Kind.TheVariants.{Won}
use Rattle.he_summary.proofs.writing.won_of.Given as goal

abbrev pub invariant-loop-race : goal.invariant-loop-race
invariant-loop-race g l = l.won.items ++ filter (is_kind Won) (drop l.race-index l.kept) ≡ filter (is_kind Won) l.kept
