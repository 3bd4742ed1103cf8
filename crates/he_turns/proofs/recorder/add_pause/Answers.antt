use Rattle.he_timeline.specs.Building.{with_pause}
use Rattle.he_timeline.proofs.Ranges.{IsRace-with_pause}
use Rattle.he_turns.proofs.Builds.{Adds, left-ok, pause-adds, valid-ok}
use Rattle.he_turns.proofs.recorder.add_pause.Goals as goal

pub only_memory-requires : goal.only_memory-requires
only_memory-requires c =
    let a : Adds c.pause.result c.pause.new.self (with_pause c.args.recorded.now c.args.from c.args.to) = pause-adds c.pause.result c.args.recorded.now c.pause.new.self c.args.from c.args.to c.requires.later c.requires.some c.requires.early c.requires.few c.pause.ensures in a.refused

pub returns-clause-recorded : goal.returns-clause-recorded
returns-clause-recorded c =
    left-ok c.pause.result c.pause.new.self (with_pause c.args.recorded.now c.args.from c.args.to) c.only_memory.result (pause-adds c.pause.result c.args.recorded.now c.pause.new.self c.args.from c.args.to c.requires.later c.requires.some c.requires.early c.requires.few c.pause.ensures) c.only_memory.ensures.ok

pub returns-clause-valid : goal.returns-clause-valid
returns-clause-valid c =
    valid-ok c.pause.result c.pause.new.self (with_pause c.args.recorded.now c.args.from c.args.to) c.only_memory.result (pause-adds c.pause.result c.args.recorded.now c.pause.new.self c.args.from c.args.to c.requires.later c.requires.some c.requires.early c.requires.few c.pause.ensures) (IsRace-with_pause c.args.recorded.now c.args.from c.args.to c.requires.valid c.requires.later c.requires.some c.requires.early c.requires.few) c.only_memory.ensures.ok
