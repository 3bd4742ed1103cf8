use Rattle.he_timeline.specs.Building.{with_used}
use Rattle.he_timeline.proofs.Ranges.{IsRace-with_used}
use Rattle.he_turns.proofs.Builds.{used-adds, valid-ok}
use Rattle.he_turns.proofs.learning.add_used.Goals as goal

pub returns-then-used-clause-valid : goal.returns-then-used-clause-valid
returns-then-used-clause-valid c =
    valid-ok c.used_of_known.result c.used_of_known.new.self (with_used c.args.recorded.now c.args.ip) c.only_memory.result
    (used-adds c.used_of_known.result c.args.recorded.now c.used_of_known.new.self c.args.ip c.requires.answered c.requires.first c.used_of_known.ensures)
    (IsRace-with_used c.args.recorded.now c.args.ip c.requires.valid c.requires.answered c.requires.first) c.only_memory.ensures.ok
