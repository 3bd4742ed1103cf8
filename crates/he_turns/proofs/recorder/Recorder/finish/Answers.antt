use Rattle.std.proofs.Common.{◌≡◌, subst, sym}
use Rattle.he_timeline.specs.declared.outcome.Outcome.{Outcome}
use Rattle.he_timeline.specs.Building.{with_outcome}
use Rattle.he_timeline.specs.Race.{Race}
use Rattle.he_plan.specs.RaceState.{EndsOne}
use Rattle.he_turns.proofs.Recorded.{ends-one}
use Rattle.he_turns.proofs.Standing.{stands-made}
use Rattle.he_turns.proofs.recorder.Recorder.finish.Goals as goal

pub add_outcome-requires-clause-known : goal.add_outcome-requires-clause-known
add_outcome-requires-clause-known c =
    stands-made c.args.self.now.recorded c.args.self.now.underway.attempts c.requires.turn.1.made.in_turn c.args.attempt c.requires.made

pub end-requires : goal.end-requires
end-requires c =
    let turn = c.requires.turn.1 in
    let ends : EndsOne c.args.self.now.recorded c.add_outcome.new.recorded c.args.self.now.underway.attempts c.args.attempt =
    ends-one c.args.self.now.recorded c.add_outcome.new.recorded c.args.now c.args.self.now.underway.attempts c.requires.turn.0 c.args.is_won c.args.attempt turn c.requires.made c.requires.unfinished (subst (λ (o : Outcome). c.add_outcome.new.recorded ≡ with_outcome c.args.self.now.recorded c.args.attempt.ip o) c.ended_by-outcome.ensures c.in_ok-add_outcome.ensures.recorded) in
    record {
      ends = (c.args.self.now.recorded, turn.valid, c.requires.underway, subst (λ (race : Race). EndsOne c.args.self.now.recorded race c.args.self.now.underway.attempts c.args.attempt) (sym c.timeline.ensures) ends);
    }
