use Rattle.std.proofs.Common.{◌≡◌, ◌+◌, ◌<◌, ◌≤◌, true, List, ap, subst, arith}
use Rattle.std.specs.List.{All}
use Rattle.std.proofs.lemmas.List.Elements.{All-weaker}
use Rattle.he_plan.specs.declared.attempts.Attempt.{Attempt}
use Rattle.he_plan.specs.Attempts.{AreNextInTurn}
use Rattle.he_timeline.specs.Race.{Race}
use Rattle.he_turns.specs.declared.limits.TheConstants.{MAX_POLL_TICK}
use Rattle.he_turns.specs.Kept.{first_after, IsUnfinished, are_untold}
use Rattle.he_turns.specs.Turns.{StartsOne}
use Rattle.he_turns.proofs.Sweeps.{starts-one}
use Rattle.he_turns.proofs.Turning.{unfinished-later}
use Rattle.he_turns.proofs.Untold.{untold-started}
use Rattle.he_turns.proofs.live.Live.end_turn.Goals as goal

pub with_made-requires-clause-unfinished : goal.with_made-requires-clause-unfinished
with_made-requires-clause-unfinished g c =
    rw c.attempts.ensures (unfinished-later g.C.Connector g.C.Run.Trial c.args.self.recorder.recorded c.args.self.recorder.underway.attempts c.end_turn.new.self.underway.attempts c.args.now c.args.self.unfinished.items c.in-Ok.ensures.made c.requires.unfinished)

pub with_made-requires-clause-in_time : goal.with_made-requires-clause-in_time
with_made-requires-clause-in_time g c =
    let last : first_after c.end_turn.new.self.turn ≡ c.args.now + 1 = ap first_after c.in-Ok.ensures.turn in
    rw c.attempts.ensures (All-weaker (λ (x : Attempt). x.tick < first_after c.end_turn.new.self.turn) (λ (x : Attempt). x.tick ≤ MAX_POLL_TICK) (λ x h. omega (arith, h, last, c.requires.early, c.requires.in_turn.valid.settings.limit_most)) c.end_turn.new.self.underway.attempts c.in-Ok.ensures.recorder.rests.past)

pub returns-in-Ok-with_made-clause-on : goal.returns-in-Ok-with_made-clause-on
returns-in-Ok-with_made-clause-on g c = record {
  recorded = c.in-Ok.ensures.recorded;
  starts = starts;
  kept = record {
    recorder = c.in-Ok.ensures.recorder;
    unfinished = subst (λ (xs : List Attempt). All (IsUnfinished g.C.Connector g.C.Run.Trial xs) c.in-Ok-with_made.unfinished.items) c.attempts.ensures c.in-Ok-with_made.ensures.unfinished;
    untold = untold;
  };
  turn = c.in-Ok.ensures.turn;
  asked = rw c.deref.ensures.value at c.next_tick-tick.ensures;
}
  where
    starts : StartsOne g.C.Connector g.C.Run.Trial c.args.connector.now c.args.now c.args.self.recorder.underway.attempts c.end_turn.new.self.underway.attempts c.args.self.unfinished.items c.with_made.new.connector c.in-Ok-with_made.unfinished.items
    starts = starts-one g.C.Connector g.C.Run.Trial c.args.self.recorder.recorded c.args.now c.args.connector.now c.with_made.new.connector c.args.self.recorder.underway.attempts c.end_turn.new.self.underway.attempts c.args.self.unfinished.items c.in-Ok-with_made.unfinished.items c.in-Ok.ensures.made (rw (c.attempts.ensures, c.attempts-made.ensures) at c.in-Ok-with_made.ensures.starts)

    turn : AreNextInTurn c.args.self.recorder.recorded c.end_turn.new.self.underway.attempts
    turn = subst (λ (race : Race). AreNextInTurn race c.end_turn.new.self.underway.attempts) c.in-Ok.ensures.recorded c.in-Ok.ensures.recorder.rests.made.in_turn

    untold : are_untold c.end_turn.new.self.recorded.outcomes c.in-Ok-with_made.unfinished.items ≡ true
    untold =
        rw c.in-Ok.ensures.recorded (untold-started g.C.Connector g.C.Run.Trial c.args.self.recorder.recorded c.args.now c.args.self.recorder.underway.attempts c.end_turn.new.self.underway.attempts c.args.self.unfinished.items c.in-Ok-with_made.unfinished.items c.args.connector.now c.with_made.new.connector turn c.requires.in_turn.made.tried c.requires.unfinished c.requires.untold starts)
