use Rattle.std.proofs.Common.{arith}
use Rattle.he_timeline.specs.Building.{with_answer}
use Rattle.he_turns.proofs.Builds.{Adds, answer-adds, answer-valid, left-ok, valid-ok}
use Rattle.he_turns.proofs.hearing.add_answer.Goals as goal

pub only_memory-requires : goal.only_memory-requires
only_memory-requires c =
    let a : Adds c.answer.result c.answer.new.self (with_answer c.args.recorded.now c.args.family (record { tick = c.args.tick; addresses = c.args.addresses.now })) =
    answer-adds c.answer.result c.args.recorded.now c.answer.new.self c.args.family c.args.tick c.args.addresses.now c.requires.first (omega (arith, c.requires.in_time)) c.requires.few c.requires.own c.requires.distinct c.answer.ensures in a.refused

pub returns-clause-recorded : goal.returns-clause-recorded
returns-clause-recorded c =
    left-ok c.answer.result c.answer.new.self (with_answer c.args.recorded.now c.args.family (record { tick = c.args.tick; addresses = c.args.addresses.now })) c.only_memory.result
    (answer-adds c.answer.result c.args.recorded.now c.answer.new.self c.args.family c.args.tick c.args.addresses.now c.requires.first (omega (arith, c.requires.in_time)) c.requires.few c.requires.own c.requires.distinct c.answer.ensures) c.only_memory.ensures.ok

pub returns-clause-valid : goal.returns-clause-valid
returns-clause-valid c =
    valid-ok c.answer.result c.answer.new.self (with_answer c.args.recorded.now c.args.family (record { tick = c.args.tick; addresses = c.args.addresses.now })) c.only_memory.result
    (answer-adds c.answer.result c.args.recorded.now c.answer.new.self c.args.family c.args.tick c.args.addresses.now c.requires.first (omega (arith, c.requires.in_time)) c.requires.few c.requires.own c.requires.distinct c.answer.ensures)
    (answer-valid c.args.recorded.now c.args.family c.args.tick c.args.addresses.now c.requires.valid c.requires.first (omega (arith, c.requires.in_time)) c.requires.few c.requires.own c.requires.distinct) c.only_memory.ensures.ok
