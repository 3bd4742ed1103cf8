use Rattle.he_timeline.specs.Building.{with_rtt}
use Rattle.he_timeline.proofs.Ranges.{IsRace-with_rtt}
use Rattle.he_turns.proofs.Builds.{Adds, left-ok, rtt-adds, valid-ok}
use Rattle.he_turns.proofs.learning.push_rtt.Goals as goal

pub only_memory-requires : goal.only_memory-requires
only_memory-requires c =
    let a : Adds c.rtt_of_known.result c.rtt_of_known.new.self (with_rtt c.args.recorded.now c.args.ip c.args.rtt) =
    rtt-adds c.rtt_of_known.result c.args.recorded.now c.rtt_of_known.new.self c.args.ip c.args.rtt c.requires.lasts c.requires.answered c.requires.first c.rtt_of_known.ensures in a.refused

pub returns-clause-recorded : goal.returns-clause-recorded
returns-clause-recorded c =
    left-ok c.rtt_of_known.result c.rtt_of_known.new.self (with_rtt c.args.recorded.now c.args.ip c.args.rtt) c.only_memory.result
    (rtt-adds c.rtt_of_known.result c.args.recorded.now c.rtt_of_known.new.self c.args.ip c.args.rtt c.requires.lasts c.requires.answered c.requires.first c.rtt_of_known.ensures) c.only_memory.ensures.ok

pub returns-clause-valid : goal.returns-clause-valid
returns-clause-valid c =
    valid-ok c.rtt_of_known.result c.rtt_of_known.new.self (with_rtt c.args.recorded.now c.args.ip c.args.rtt) c.only_memory.result
    (rtt-adds c.rtt_of_known.result c.args.recorded.now c.rtt_of_known.new.self c.args.ip c.args.rtt c.requires.lasts c.requires.answered c.requires.first c.rtt_of_known.ensures)
    (IsRace-with_rtt c.args.recorded.now c.args.ip c.args.rtt c.requires.valid c.requires.lasts c.requires.answered c.requires.first) c.only_memory.ensures.ok
