use Rattle.he_turns.proofs.Recorded.{none_yet, rests-ok, rests-still}
use Rattle.he_turns.proofs.recorder.start_due.Goals as goal

pub returns-in-Some-clause-rests : goal.returns-in-Some-clause-rests
returns-in-Some-clause-rests c =
    rests-ok c.args.race.now c.args.now c.in-Some.tick c.args.underway.now.attempts c.start.new.self.attempts c.requires.in_turn c.in-Some.ensures.some c.if-tick-now.true c.start.result c.start.ensures.made

pub returns-in_default-clause-rests : goal.returns-in_default-clause-rests
returns-in_default-clause-rests c = rests-still c.args.race.now c.args.now c.args.underway.now.attempts c.requires.in_turn c.requires.early (none_yet c.args.race.now c.args.now c.in-Some.tick c.args.underway.now.attempts c.in-Some.ensures.some c.if-tick-now.false)

pub returns-in_default-2-clause-rests : goal.returns-in_default-2-clause-rests
returns-in_default-2-clause-rests c = rests-still c.args.race.now c.args.now c.args.underway.now.attempts c.requires.in_turn c.requires.early (c.in_default.ensures.none c.args.now)
