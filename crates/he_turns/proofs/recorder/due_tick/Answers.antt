use Rattle.he_plan.specs.Due.{IsDueTick}
use Rattle.he_turns.specs.Answered.{earliest, untaken_tick}
use Rattle.he_turns.proofs.DueTicks.{due_tick-is}
use Rattle.he_turns.proofs.recorder.due_tick.Goals as goal

pub returns : goal.returns
returns c =
    let is : IsDueTick c.args.race.now c.args.turn c.args.underway.now.attempts (earliest (earliest (earliest c.args.race.now.settings.limit c.next_tick.result) (untaken_tick c.args.turn c.args.race.now.aaaa)) (untaken_tick c.args.turn c.args.race.now.a)) =
    due_tick-is c.args.race.now c.next_tick.ensures.race c.args.turn c.args.underway.now.attempts c.next_tick.result c.requires.after c.requires.over c.next_tick.ensures.some c.next_tick.ensures.none in
    rw (c.earliest.ensures, c.earliest-due-2.ensures, c.earliest-due.ensures, c.untaken_tick.ensures, c.untaken_tick-2.ensures, c.limit-limit.ensures.value, c.settings.ensures.value) is
