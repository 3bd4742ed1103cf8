use Rattle.std.proofs.Common.{arith}
use Rattle.he_turns.proofs.Counted.{pauses-few}
use Rattle.he_turns.proofs.Recorded.{begins-now, begins-slept, due_later, underway-ok}
use Rattle.he_turns.proofs.recorder.Recorder.begin_turn.Goals as goal

pub add_pause-requires-clause-later : goal.add_pause-requires-clause-later
add_pause-requires-clause-later c =
    omega (arith, c.requires.recorder.rests.over, due_later c.args.self.now.recorded c.requires.recorder.rests.valid c.args.self.now.turn c.args.self.now.underway.attempts c.args.self.now.due c.requires.recorder.rests.after c.requires.recorder.due.holds)

pub add_pause-requires-clause-few : goal.add_pause-requires-clause-few
add_pause-requires-clause-few c =
    pauses-few c.args.self.now.recorded c.requires.recorder.rests.valid c.args.self.now.turn c.args.self.now.underway.attempts c.requires.recorder.rests.made.in_turn c.requires.recorder.rests.few

pub returns-then-self-now-clause-begins : goal.returns-then-self-now-clause-begins
returns-then-self-now-clause-begins c =
    begins-slept c.args.self.now.recorded c.add_pause.new.recorded c.args.self.now.turn c.args.self.now.underway.attempts c.args.self.now.due c.args.now c.requires.recorder.rests c.requires.recorder.due c.requires.later (omega arith) c.add_pause.result c.add_pause.ensures.recorded c.add_pause.ensures.valid

pub returns-then-self-now-clause-underway : goal.returns-then-self-now-clause-underway
returns-then-self-now-clause-underway c =
    underway-ok c.args.self.now.recorded c.add_pause.new.recorded c.args.self.now.turn c.args.self.now.underway c.args.self.now.due c.args.now c.requires.recorder.rests c.requires.recorder.due c.requires.recorder.underway c.add_pause.result c.add_pause.ensures.recorded
    (begins-slept c.args.self.now.recorded c.add_pause.new.recorded c.args.self.now.turn c.args.self.now.underway.attempts c.args.self.now.due c.args.now c.requires.recorder.rests c.requires.recorder.due c.requires.later (omega arith) c.add_pause.result c.add_pause.ensures.recorded c.add_pause.ensures.valid)

pub returns-clause-begins : goal.returns-clause-begins
returns-clause-begins c =
    begins-now c.args.self.now.recorded c.args.self.now.turn c.args.self.now.underway.attempts c.args.self.now.due c.args.now c.requires.recorder.rests c.requires.recorder.due c.requires.later (omega arith)
