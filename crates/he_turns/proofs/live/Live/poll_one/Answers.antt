use Rattle.std.proofs.Common.{◌≡◌, ◌∙◌, ◌<◌, Some, length, refl, sym, ap, subst, rules}
use Rattle.std.proofs.lemmas.List.Elements.{All-set}
use Rattle.futures.specs.declared.task.Poll.TheVariants.{Pending, Ready}
use Rattle.he_plan.specs.declared.attempts.Attempt.{Attempt}
use Rattle.he_timeline.specs.Race.{Race}
use Rattle.he_turns.specs.Kept.{IsUnfinished}
use Rattle.he_turns.specs.Turns.{told}
use Rattle.he_turns.proofs.Listening.{set-at}
use Rattle.he_turns.proofs.Turning.{All-left}
use Rattle.he_turns.proofs.Untold.{ended-told, same-at, same-attempt, stands-at, untold-at, untold-gone, untold-set}
use Rattle.he_turns.proofs.live.Live.poll_one.Goals as goal

pub returns-in-Pending-clause-unfinished : goal.returns-in-Pending-clause-unfinished
returns-in-Pending-clause-unfinished g c =
    let lt : c.args.i < length c.args.self.now.unfinished.items = search rules in
    let was : IsUnfinished g.C.Connector g.C.Run.Trial c.args.self.now.recorder.underway.attempts c.index_mut.result.now = subst (IsUnfinished g.C.Connector g.C.Run.Trial c.args.self.now.recorder.underway.attempts) (sym c.index_mut.ensures.value) (c.requires.unfinished c.args.i c.index_mut.result.now lt) in
    All-set (IsUnfinished g.C.Connector g.C.Run.Trial c.args.self.now.recorder.underway.attempts) c.args.self.now.unfinished.items c.args.i _ (record { made = was.made; can = c.in-Pending.ensures.again }) c.requires.unfinished

pub returns-in_ok-finish-in-Ready-clause-unfinished : goal.returns-in_ok-finish-in-Ready-clause-unfinished
returns-in_ok-finish-in-Ready-clause-unfinished g c =
    rw c.remove.ensures.items (All-left (IsUnfinished g.C.Connector g.C.Run.Trial c.args.self.now.recorder.underway.attempts) c.args.self.now.unfinished.items c.args.i _ c.requires.unfinished)

pub finish-requires-clause-unfinished : goal.finish-requires-clause-unfinished
finish-requires-clause-unfinished g c =
    let lt : c.args.i < length c.args.self.now.unfinished.items = search rules in
    rw c.index.ensures (untold-at c.args.self.now.recorder.recorded.outcomes c.args.self.now.unfinished.items c.requires.untold c.args.i c.index.result.now lt)

pub returns-in-Pending-clause-untold : goal.returns-in-Pending-clause-untold
returns-in-Pending-clause-untold g c =
    let lt : c.args.i < length c.args.self.now.unfinished.items = search rules in
    untold-set c.args.self.now.recorder.recorded.outcomes c.args.self.now.unfinished.items c.requires.untold c.args.i c.index_mut.result.now _ lt (same-attempt c.index_mut.result.now _ c.index_mut.ensures.value)

pub returns-in-Pending-clause-step : goal.returns-in-Pending-clause-step
returns-in-Pending-clause-step g c =
    let lt : c.args.i < length c.args.self.now.unfinished.items = search rules in
    record {
      o = c.index_mut.result.now;
      at = stands-at c.args.self.now.unfinished.items c.args.i c.index_mut.result.now lt ∙ ap Some (sym c.index_mut.ensures.value);
      polled = Pending;
      future = c.poll_attempt.new.self;
      polls = c.in-Pending.ensures.step;
      left = (refl, refl, refl);
    }

pub returns-in_ok-finish-in-Ready-clause-recorder : goal.returns-in_ok-finish-in-Ready-clause-recorder
returns-in_ok-finish-in-Ready-clause-recorder g c =
    let lt : c.args.i < length c.args.self.now.unfinished.items = search rules in
    let was : IsUnfinished g.C.Connector g.C.Run.Trial c.args.self.now.recorder.underway.attempts c.index.result.now = subst (IsUnfinished g.C.Connector g.C.Run.Trial c.args.self.now.recorder.underway.attempts) (sym c.index.ensures) (c.requires.unfinished c.args.i c.index.result.now lt) in
    record {
      x = c.index.result.now.attempt;
      made = was.made;
      first = rw c.index.ensures (untold-at c.args.self.now.recorder.recorded.outcomes c.args.self.now.unfinished.items c.requires.untold c.args.i c.index.result.now lt);
      is = c.in_ok-finish-in-Ready.ensures.recorded ∙ ended-told c.args.self.now.recorder.recorded c.index.result.now.attempt c.args.now c.in-Ready.finish.result c.is_ok.result c.is_ok.ensures.value;
      attempts = c.in_ok-finish-in-Ready.ensures.attempts;
      valid = c.in_ok-finish-in-Ready.ensures.valid;
      underway = c.in_ok-finish-in-Ready.ensures.underway;
    }

pub returns-in_ok-finish-in-Ready-clause-untold : goal.returns-in_ok-finish-in-Ready-clause-untold
returns-in_ok-finish-in-Ready-clause-untold g c =
    let lt : c.args.i < length c.args.self.now.unfinished.items = search rules in
    untold-gone c.args.self.now.recorder.recorded.outcomes c.finish.new.self.recorded.outcomes c.args.self.now.unfinished.items c.remove.new.self.items c.requires.untold c.args.i c.index.result.now _ c.index.result.now lt c.index.ensures _ (ap (λ (x : Race). x.outcomes) c.in_ok-finish-in-Ready.ensures.recorded) c.remove.ensures.items

pub returns-in_ok-finish-in-Ready-clause-step : goal.returns-in_ok-finish-in-Ready-clause-step
returns-in_ok-finish-in-Ready-clause-step g c =
    let lt : c.args.i < length c.args.self.now.unfinished.items = search rules in
    let same : c.index.result.now.attempt ≡ c.index_mut.result.now.attempt = same-attempt c.index.result.now c.index_mut.result.now (c.index.ensures ∙ same-at c.args.self.now.unfinished.items c.args.i c.index.result.now c.index_mut.result.now lt ∙ sym c.index_mut.ensures.value) in
    record {
      o = c.index_mut.result.now;
      at = stands-at c.args.self.now.unfinished.items c.args.i c.index_mut.result.now lt ∙ ap Some (sym c.index_mut.ensures.value);
      polled = Ready c.in-Ready.finish;
      future = c.poll_attempt.new.self;
      polls = c.in-Ready.ensures.step;
      left = (
        refl,
        c.in_ok-finish-in-Ready.ensures.recorded
            ∙ ended-told c.args.self.now.recorder.recorded c.index.result.now.attempt c.args.now c.in-Ready.finish.result c.is_ok.result c.is_ok.ensures.value
            ∙ ap (λ (x : Attempt). told c.args.self.now.recorder.recorded x c.args.now c.in-Ready.finish.result) same,
        c.in_ok-finish-in-Ready.ensures.attempts,
        c.remove.ensures.items,
      );
    }

pub returns-in-Pending-clause-waits : goal.returns-in-Pending-clause-waits
returns-in-Pending-clause-waits g c =
    let lt : c.args.i < length c.args.self.now.unfinished.items = search rules in
    rw (set-at c.args.self.now.unfinished.items c.args.i _ lt) c.in-Pending.ensures.waits
