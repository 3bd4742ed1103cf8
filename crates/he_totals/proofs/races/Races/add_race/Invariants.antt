use Rattle.std.proofs.Common.{List, take}
use Rattle.he_totals.specs.Kept.{Run}
use Rattle.he_totals.specs.Steps.{AddsRuns}
use Rattle.he_totals.specs.Summed.{AreRows}
use Rattle.he_totals.proofs.races.Races.add_race.Given as goal

abbrev pub invariant-loop-row : goal.invariant-loop-row
invariant-loop-row g l = (runs : List Run) × AreRows l.fn.told l.fn.race l.fn.place 0 (take l.row l.fn.self.settings) runs × AddsRuns runs l.fn.self l.self
