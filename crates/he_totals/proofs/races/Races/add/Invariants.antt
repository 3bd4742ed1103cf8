use Rattle.std.proofs.Common.{◌-◌}
use Rattle.he_words.specs.Ranges.{most_races}
use Rattle.he_totals.specs.Steps.{HasRead}
use Rattle.he_totals.proofs.races.Races.add.Given as goal

abbrev pub invariant-loop-arena : goal.invariant-loop-arena
invariant-loop-arena g l = HasRead l.fn.file g.I.InputStream l.fn.input l.input l.stream l.fn.self l.self

abbrev pub decreases-loop-arena : goal.decreases-loop-arena
decreases-loop-arena g l = most_races - l.stream.races
