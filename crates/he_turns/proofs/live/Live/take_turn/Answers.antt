use Rattle.std.proofs.Common.{◌≡◌, ◌≤◌, ◌+◌, ◌∙◌, IfOk, List, true, false, is_some, ap, sym, subst, arith}
use Rattle.std.specs.List.{All}
use Rattle.he_timeline.proofs.Bools.{or_left_none}
use Rattle.he_plan.specs.declared.attempts.Attempt.{Attempt}
use Rattle.he_plan.specs.Agreement.{AreAlike}
use Rattle.he_timeline.specs.Race.{Race}
use Rattle.he_turns.specs.declared.recorder.Recorder.{Recorder}
use Rattle.he_turns.specs.Recording.{slept}
use Rattle.he_turns.specs.Kept.{InTurn, IsUnfinished}
use Rattle.he_turns.specs.Polling.{HeardListensAfter, TurnsFrom}
use Rattle.he_turns.specs.Turns.{is_over, unpolled}
use Rattle.he_turns.proofs.Heard.{HeardSame, heard-same}
use Rattle.he_turns.proofs.Listening.{ended-heard, ended-listens, gone-listens, turn-heard}
use Rattle.he_turns.proofs.Sweeps.{ended-swept, gone-on, heard-run, turned-late, turned-run}
use Rattle.he_turns.proofs.Turning.{ended-late, ended-turn, ends-late, ends-turn, going-early, same_limit, slept-alike}
use Rattle.he_turns.proofs.Untold.{slept-outcomes}
use Rattle.he_turns.proofs.live.Live.take_turn.Goals as goal

pub end-requires-clause-ended : goal.end-requires-clause-ended
end-requires-clause-ended g c =
    let recorded : c.begin_turn.new.self.recorded ≡ slept c.args.self.recorder.recorded c.args.self.recorder.due c.args.now = ap (λ (x : Recorder). x.recorded) c.in_ok-begin_turn.ensures.recorded in
    let alike : AreAlike c.args.self.recorder.recorded c.begin_turn.new.self.recorded = subst (AreAlike c.args.self.recorder.recorded) (sym recorded) (slept-alike c.args.self.recorder.recorded c.args.self.recorder.due c.args.now) in
    ended-late c.begin_turn.new.self.recorded c.args.now c.begin_turn.new.self.underway.attempts c.in_ok-begin_turn.ensures.begins (omega (arith, same_limit c.args.self.recorder.recorded c.begin_turn.new.self.recorded alike))

pub returns-then-now-limit-clause-turned : goal.returns-then-now-limit-clause-turned
returns-then-now-limit-clause-turned g c =
    let recorded : c.begin_turn.new.self.recorded ≡ slept c.args.self.recorder.recorded c.args.self.recorder.due c.args.now = ap (λ (x : Recorder). x.recorded) c.in_ok-begin_turn.ensures.recorded in
    let alike : AreAlike c.args.self.recorder.recorded c.begin_turn.new.self.recorded = subst (AreAlike c.args.self.recorder.recorded) (sym recorded) (slept-alike c.args.self.recorder.recorded c.args.self.recorder.due c.args.now) in
    let after : c.args.now ≡ c.begin_turn.new.self.recorded.settings.limit + 1 = omega (arith, same_limit c.args.self.recorder.recorded c.begin_turn.new.self.recorded alike) in
    turned-late g.S.AnswerSource.hears g.C.Connector g.C.Run.Trial c.args.source.now c.args.connector.now c.args.self c.args.now c.begin_turn.new.self c.end.result c.in_ok-begin_turn.ensures.recorded (omega (arith, after)) (ends-late c.begin_turn.new.self.recorded c.args.now c.begin_turn.new.self.underway.attempts c.in_ok-begin_turn.ensures.begins after) c.end.ensures

pub returns-then-now-limit-clause-waits : goal.returns-then-now-limit-clause-waits
returns-then-now-limit-clause-waits g c = ended-listens g.C.Connector g.C.Run.Trial c.args.cx.now _ _ c.end.result c.end.ensures

pub returns-then-now-limit-clause-source_waits : goal.returns-then-now-limit-clause-source_waits
returns-then-now-limit-clause-source_waits g c =
    ended-heard g.S.AnswerSource g.C.Connector g.C.Run.Trial c.args.cx.now c.args.source.now c.args.source.now _ c.args.now _ _ c.end.result c.end.ensures

pub poll_all-requires-clause-unfinished : goal.poll_all-requires-clause-unfinished
poll_all-requires-clause-unfinished g c =
    let begun : All (IsUnfinished g.C.Connector g.C.Run.Trial c.begin_turn.new.self.underway.attempts) c.args.self.unfinished.items = subst (λ (x : Recorder). All (IsUnfinished g.C.Connector g.C.Run.Trial x.underway.attempts) c.args.self.unfinished.items) (sym c.in_ok-begin_turn.ensures.recorded) c.requires.live.unfinished in
    subst (λ (xs : List Attempt). All (IsUnfinished g.C.Connector g.C.Run.Trial xs) c.args.self.unfinished.items) (sym c.in_ok-hear.ensures.attempts) begun

pub poll_all-requires-clause-untold : goal.poll_all-requires-clause-untold
poll_all-requires-clause-untold g c =
    let heard : HeardSame c.begin_turn.new.self.recorded c.hear.new.self.recorded = heard-same g.S.AnswerSource.hears c.args.source.now c.hear.new.source c.begin_turn.new.self.recorded c.hear.new.self.recorded c.args.now c.in_ok-hear.ensures.heard in
    let begun : c.begin_turn.new.self.recorded.outcomes ≡ c.args.self.recorder.recorded.outcomes = ap (λ (x : Recorder). x.recorded.outcomes) c.in_ok-begin_turn.ensures.recorded ∙ slept-outcomes c.args.self.recorder.recorded c.args.self.recorder.due c.args.now in
    rw (heard.outcomes ∙ begun) c.requires.live.untold

pub returns-in_err-winner-clause-kept : goal.returns-in_err-winner-clause-kept
returns-in_err-winner-clause-kept g c = λ fact h. c.poll_all.ensures.kept fact (c.hear.ensures.kept fact h)

pub end-requires-then-is_over-clause-ended : goal.end-requires-then-is_over-clause-ended
end-requires-then-is_over-clause-ended g c =
    let heard : HeardSame c.begin_turn.new.self.recorded c.hear.new.self.recorded = heard-same g.S.AnswerSource.hears c.args.source.now c.hear.new.source c.begin_turn.new.self.recorded c.hear.new.self.recorded c.args.now c.in_ok-hear.ensures.heard in
    let over : is_over c.poll_all.new.self.recorder.recorded c.poll_all.new.self.recorder.underway.attempts c.args.now c.poll_all.new.self.unfinished.items (is_some c.in_ok-winner.winner) ≡ true = ap (is_over c.poll_all.new.self.recorder.recorded c.poll_all.new.self.recorder.underway.attempts c.args.now c.poll_all.new.self.unfinished.items) (sym c.is_some.ensures) ∙ sym c.is_over.ensures ∙ c.if-is_over.true in
    ended-turn c.poll_all.new.self.recorder.recorded c.poll_all.new.self.recorder.underway.attempts c.args.now c.poll_all.new.self.unfinished.items (is_some c.in_ok-winner.winner) c.in_ok-winner.ensures.turn (omega (arith, c.if-now-limit.false, c.limit.ensures.value, ap (λ settings. settings.limit) heard.kept.settings, same_limit c.hear.new.self.recorded c.poll_all.new.self.recorder.recorded c.in_ok-winner.ensures.recorder.alike)) over

pub returns-then-is_over-clause-turned : goal.returns-then-is_over-clause-turned
returns-then-is_over-clause-turned g c =
    let heard : HeardSame c.begin_turn.new.self.recorded c.hear.new.self.recorded = heard-same g.S.AnswerSource.hears c.args.source.now c.hear.new.source c.begin_turn.new.self.recorded c.hear.new.self.recorded c.args.now c.in_ok-hear.ensures.heard in
    let over : is_over c.poll_all.new.self.recorder.recorded c.poll_all.new.self.recorder.underway.attempts c.args.now c.poll_all.new.self.unfinished.items (is_some c.in_ok-winner.winner) ≡ true = ap (is_over c.poll_all.new.self.recorder.recorded c.poll_all.new.self.recorder.underway.attempts c.args.now c.poll_all.new.self.unfinished.items) (sym c.is_some.ensures) ∙ sym c.is_over.ensures ∙ c.if-is_over.true in
    let turned : IfOk c.end-then-is_over.result (TurnsFrom g.C.Connector g.C.Run.Trial (unpolled c.args.connector.now c.hear.new.self.recorded c.hear.new.self.underway.attempts) c.args.self.unfinished.items c.args.now c.poll_all.new.connector) = ended-swept g.C.Connector g.C.Run.Trial (unpolled c.args.connector.now c.hear.new.self.recorded c.hear.new.self.underway.attempts) c.args.self.unfinished.items c.args.now (record { connector = c.poll_all.new.connector; recorded = c.poll_all.new.self.recorder.recorded; attempts = c.poll_all.new.self.recorder.underway.attempts; pending = c.poll_all.new.self.unfinished.items; first = c.in_ok-winner.winner }) c.end-then-is_over.result c.in_ok-winner.ensures.each over (ends-turn c.poll_all.new.self.recorder.recorded c.poll_all.new.self.recorder.underway.attempts c.args.now c.poll_all.new.self.unfinished.items (is_some c.in_ok-winner.winner) c.in_ok-winner.ensures.turn (omega (arith, c.if-now-limit.false, c.limit.ensures.value, ap (λ settings. settings.limit) heard.kept.settings, same_limit c.hear.new.self.recorded c.poll_all.new.self.recorder.recorded c.in_ok-winner.ensures.recorder.alike)) over) c.in_ok-winner.ensures.recorder.alike c.in_ok-winner.ensures.recorder.pauses c.end-then-is_over.ensures in
    turned-run g.S.AnswerSource.hears g.C.Connector g.C.Run.Trial c.args.source.now c.hear.new.source c.args.connector.now c.poll_all.new.connector c.args.self c.args.now c.begin_turn.new.self c.end-then-is_over.result c.in_ok-begin_turn.ensures.recorded (heard-run g.S.AnswerSource.hears g.C.Connector g.C.Run.Trial c.args.source.now c.hear.new.source c.args.connector.now c.poll_all.new.connector c.begin_turn.new.self.recorded c.hear.new.self.recorded c.begin_turn.new.self.underway.attempts c.hear.new.self.underway.attempts c.args.self.unfinished.items c.args.now c.end-then-is_over.result c.in_ok-hear.ensures.heard c.in_ok-hear.ensures.attempts turned)

pub returns-then-is_over-clause-kept : goal.returns-then-is_over-clause-kept
returns-then-is_over-clause-kept g c = λ fact h. c.poll_all.ensures.kept fact (c.hear.ensures.kept fact h)

pub end_turn-requires-clause-in_turn : goal.end_turn-requires-clause-in_turn
end_turn-requires-clause-in_turn g c =
    let going : is_over c.poll_all.new.self.recorder.recorded c.poll_all.new.self.recorder.underway.attempts c.args.now c.poll_all.new.self.unfinished.items (is_some c.in_ok-winner.winner) ≡ false = ap (is_over c.poll_all.new.self.recorder.recorded c.poll_all.new.self.recorder.underway.attempts c.args.now c.poll_all.new.self.unfinished.items) (sym c.is_some.ensures) ∙ sym c.is_over.ensures ∙ c.if-is_over.false in
    let lost : is_some c.in_ok-winner.winner ≡ false = or_left_none _ _ going in
    subst (InTurn c.poll_all.new.self.recorder.recorded c.args.now c.poll_all.new.self.recorder.underway.attempts) lost c.in_ok-winner.ensures.turn

pub returns-clause-turned : goal.returns-clause-turned
returns-clause-turned g c =
    let going : is_over c.poll_all.new.self.recorder.recorded c.poll_all.new.self.recorder.underway.attempts c.args.now c.poll_all.new.self.unfinished.items (is_some c.in_ok-winner.winner) ≡ false = ap (is_over c.poll_all.new.self.recorder.recorded c.poll_all.new.self.recorder.underway.attempts c.args.now c.poll_all.new.self.unfinished.items) (sym c.is_some.ensures) ∙ sym c.is_over.ensures ∙ c.if-is_over.false in
    let turned : IfOk c.end_turn.result (TurnsFrom g.C.Connector g.C.Run.Trial (unpolled c.args.connector.now c.hear.new.self.recorded c.hear.new.self.underway.attempts) c.args.self.unfinished.items c.args.now c.end_turn.new.connector) = gone-on g.C.Connector g.C.Run.Trial (unpolled c.args.connector.now c.hear.new.self.recorded c.hear.new.self.underway.attempts) c.args.self.unfinished.items c.args.now c.poll_all.new.connector c.end_turn.new.connector c.in_ok-winner.winner c.poll_all.new.self c.end_turn.result c.in_ok-winner.ensures.each going c.in_ok-winner.ensures.recorder.alike c.in_ok-winner.ensures.recorder.pauses c.end_turn.ensures.on in
    turned-run g.S.AnswerSource.hears g.C.Connector g.C.Run.Trial c.args.source.now c.hear.new.source c.args.connector.now c.end_turn.new.connector c.args.self c.args.now c.begin_turn.new.self c.end_turn.result c.in_ok-begin_turn.ensures.recorded (heard-run g.S.AnswerSource.hears g.C.Connector g.C.Run.Trial c.args.source.now c.hear.new.source c.args.connector.now c.end_turn.new.connector c.begin_turn.new.self.recorded c.hear.new.self.recorded c.begin_turn.new.self.underway.attempts c.hear.new.self.underway.attempts c.args.self.unfinished.items c.args.now c.end_turn.result c.in_ok-hear.ensures.heard c.in_ok-hear.ensures.attempts turned)

pub returns-clause-waits : goal.returns-clause-waits
returns-clause-waits g c =
    gone-listens g.C.Connector g.C.Run.Trial c.poll_all.new.cx c.end_turn.new.cx c.args.now c.poll_all.new.connector c.end_turn.new.connector c.poll_all.new.self c.end_turn.result c.in_ok-winner.ensures.waits c.end_turn.ensures.kept c.end_turn.ensures.on

pub returns-clause-source_waits : goal.returns-clause-source_waits
returns-clause-source_waits g c =
    let recorded : c.begin_turn.new.self.recorded ≡ slept c.args.self.recorder.recorded c.args.self.recorder.due c.args.now = ap (λ (x : Recorder). x.recorded) c.in_ok-begin_turn.ensures.recorded in
    let going : is_over c.poll_all.new.self.recorder.recorded c.poll_all.new.self.recorder.underway.attempts c.args.now c.poll_all.new.self.unfinished.items (is_some c.in_ok-winner.winner) ≡ false = ap (is_over c.poll_all.new.self.recorder.recorded c.poll_all.new.self.recorder.underway.attempts c.args.now c.poll_all.new.self.unfinished.items) (sym c.is_some.ensures) ∙ sym c.is_over.ensures ∙ c.if-is_over.false in
    let turned : IfOk c.end_turn.result (TurnsFrom g.C.Connector g.C.Run.Trial (unpolled c.args.connector.now c.hear.new.self.recorded c.hear.new.self.underway.attempts) c.args.self.unfinished.items c.args.now c.end_turn.new.connector) = gone-on g.C.Connector g.C.Run.Trial (unpolled c.args.connector.now c.hear.new.self.recorded c.hear.new.self.underway.attempts) c.args.self.unfinished.items c.args.now c.poll_all.new.connector c.end_turn.new.connector c.in_ok-winner.winner c.poll_all.new.self c.end_turn.result c.in_ok-winner.ensures.each going c.in_ok-winner.ensures.recorder.alike c.in_ok-winner.ensures.recorder.pauses c.end_turn.ensures.on in
    let waits : IfOk c.end_turn.result (HeardListensAfter g.S.AnswerSource c.end_turn.new.cx c.args.source.now c.begin_turn.new.self.recorded c.args.now c.hear.new.source) = turn-heard g.S.AnswerSource g.C.Connector g.C.Run.Trial c.hear.new.cx c.end_turn.new.cx c.args.source.now c.hear.new.source c.args.connector.now c.end_turn.new.connector c.begin_turn.new.self.recorded c.hear.new.self.recorded c.hear.new.self.underway.attempts c.args.self.unfinished.items c.args.now c.end_turn.result c.in_ok-hear.ensures.waits (λ fact h. c.end_turn.ensures.kept fact (c.poll_all.ensures.kept fact h)) turned in
    subst (λ (race : Race). IfOk c.end_turn.result (HeardListensAfter g.S.AnswerSource c.end_turn.new.cx c.args.source.now race c.args.now c.hear.new.source)) recorded waits

pub returns-clause-kept : goal.returns-clause-kept
returns-clause-kept g c = λ fact h. c.end_turn.ensures.kept fact (c.poll_all.ensures.kept fact (c.hear.ensures.kept fact h))
