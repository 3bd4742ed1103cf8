use Rattle.std.proofs.Common.{None, subst}
use Rattle.he_plan.specs.Due.{IsDueTick}
use Rattle.he_timeline.specs.Race.{Race}
use Rattle.he_turns.proofs.Recorded.{rests-new}
use Rattle.he_turns.proofs.recorder.Recorder.new.Goals as goal

pub returns-clause-recorder : goal.returns-clause-recorder
returns-clause-recorder g c = record {
  rests = rw c.new-underway.ensures.value (rests-new c.in_ok-recorded.recorded c.args.timeline.now c.in_ok-recorded.ensures.race c.in_ok-recorded.ensures.value);
  due = subst (λ (race : Race). IsDueTick race None c.new-underway.result.attempts c.due_tick-due.result) c.timeline.ensures c.due_tick-due.ensures;
  underway = c.new-underway.ensures.underway c.in_ok-recorded.recorded;
}
