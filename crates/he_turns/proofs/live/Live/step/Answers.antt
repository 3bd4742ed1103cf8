use Rattle.std.proofs.Common.{ℕ, ◌+◌, ◌≤◌, ◌∙◌, ap, inl, min, refl, rules}
use Rattle.he_turns.specs.Kept.{first_after}
use Rattle.he_turns.proofs.Listening.{poll-heard, turn-listens}
use Rattle.he_turns.proofs.Sweeps.{polled-again, polled-turn, turn-in_time}
use Rattle.he_turns.proofs.live.Live.step.Goals as goal

pub returns-in_default-clause-polled : goal.returns-in_default-clause-polled
returns-in_default-clause-polled g c =
    let later : first_after c.args.self.recorder.turn ≤ c.min-now.result = search rules in
    polled-turn g.S.AnswerSource.hears g.C.Connector g.C.Run.Trial c.args.source.now c.take_turn.new.source c.args.connector.now c.take_turn.new.connector c.args.self c.args.now c.min-now.result c.limit-limit.result c.take_turn.result c.min-now.ensures c.limit-limit.ensures.value later c.take_turn.ensures.turned

pub returns-in_default-clause-in_time : goal.returns-in_default-clause-in_time
returns-in_default-clause-in_time g c =
    turn-in_time g.S.AnswerSource.hears g.C.Connector g.C.Run.Trial c.args.source.now c.take_turn.new.source c.args.connector.now c.take_turn.new.connector c.args.self c.min-now.result c.take_turn.result c.take_turn.ensures.turned

pub returns-in-Some-clause-polled : goal.returns-in-Some-clause-polled
returns-in-Some-clause-polled g c =
    let early : c.min-now.result ≤ c.in-Some.turn = search rules in
    let same = c.min-now.ensures ∙ ap (λ (n : ℕ). min c.args.now (n + 1)) c.limit-limit.ensures.value in
    polled-again g.S.AnswerSource.hears g.C.Connector g.C.Run.Trial c.args.source.now c.args.connector.now c.args.self c.args.now c.min-now.result c.in-Some.turn same c.in-Some.is early

pub returns-in_default-clause-waits : goal.returns-in_default-clause-waits
returns-in_default-clause-waits g c =
    turn-listens g.C.Connector g.C.Run.Trial c.take_turn.new.cx c.args.self c.take_turn.result c.take_turn.ensures.waits

pub returns-in_default-clause-source_waits : goal.returns-in_default-clause-source_waits
returns-in_default-clause-source_waits g c =
    poll-heard g.S.AnswerSource g.C.Connector g.C.Run.Trial c.take_turn.new.cx c.args.source.now c.take_turn.new.source c.args.connector.now c.take_turn.new.connector c.args.self c.min-now.result c.take_turn.result c.take_turn.ensures.turned c.take_turn.ensures.source_waits

pub returns-in-Some-clause-waits : goal.returns-in-Some-clause-waits
returns-in-Some-clause-waits g c = inl refl

pub returns-in-Some-clause-source_waits : goal.returns-in-Some-clause-source_waits
returns-in-Some-clause-source_waits g c = inl refl
