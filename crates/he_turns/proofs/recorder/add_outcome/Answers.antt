use Rattle.he_timeline.specs.Building.{with_outcome}
use Rattle.he_timeline.proofs.Ranges.{IsRace-with_outcome}
use Rattle.he_turns.proofs.Builds.{Adds, left-ok, outcome-adds, valid-ok}
use Rattle.he_turns.proofs.recorder.add_outcome.Goals as goal

pub only_memory-requires : goal.only_memory-requires
only_memory-requires c =
    let a : Adds c.outcome_of_known.result c.outcome_of_known.new.self (with_outcome c.args.recorded.now c.args.ip c.args.outcome) = outcome-adds c.outcome_of_known.result c.args.recorded.now c.outcome_of_known.new.self c.args.ip c.args.outcome c.requires.lasts c.requires.known c.requires.first c.outcome_of_known.ensures in a.refused

pub returns-clause-recorded : goal.returns-clause-recorded
returns-clause-recorded c =
    left-ok c.outcome_of_known.result c.outcome_of_known.new.self (with_outcome c.args.recorded.now c.args.ip c.args.outcome) c.only_memory.result (outcome-adds c.outcome_of_known.result c.args.recorded.now c.outcome_of_known.new.self c.args.ip c.args.outcome c.requires.lasts c.requires.known c.requires.first c.outcome_of_known.ensures) c.only_memory.ensures.ok

pub returns-clause-valid : goal.returns-clause-valid
returns-clause-valid c =
    valid-ok c.outcome_of_known.result c.outcome_of_known.new.self (with_outcome c.args.recorded.now c.args.ip c.args.outcome) c.only_memory.result (outcome-adds c.outcome_of_known.result c.args.recorded.now c.outcome_of_known.new.self c.args.ip c.args.outcome c.requires.lasts c.requires.known c.requires.first c.outcome_of_known.ensures) (IsRace-with_outcome c.args.recorded.now c.args.ip c.args.outcome c.requires.valid c.requires.lasts c.requires.known c.requires.first) c.only_memory.ensures.ok
