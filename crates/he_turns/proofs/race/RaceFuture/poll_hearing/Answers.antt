use Rattle.std.proofs.Common.{◌∙◌, sym}
use Rattle.he_turns.specs.Resolving.{HeardAt}
use Rattle.he_turns.proofs.Listening.{race-heard, race-listens}
use Rattle.he_turns.proofs.Races.{ends, fails, live-of, waits}
use Rattle.he_turns.proofs.race.RaceFuture.poll_hearing.Goals as goal

pub step-requires : goal.step-requires
step-requires g c = live-of g.C.Connector g.C.Run.Trial c.args.self.now.live c.in-Some.live (sym c.take.ensures.value ∙ c.in-Some.is) c.requires

pub returns-in-Ok-clause-turn : goal.returns-in-Ok-clause-turn
returns-in-Ok-clause-turn g c =
    waits (λ from live now to step. HeardAt g.S.AnswerSource.hears g.C.Connector g.C.Run.Trial c.args.source.now from live now c.step.new.source to step) g.T.Ticker c.args.self.now _ c.in-Some.live c.in-Ok-Waits.live c.now-now.result c.in-Ok-Waits.tick c.now-now.new.self c.in-Ok.field-0 (sym c.take.ensures.value ∙ c.in-Some.is) c.now-now.ensures (rw c.in-Ok-Waits.field-0-is at c.in-Ok-Waits.ensures.polled) c.in-Ok.ensures.step c.put.ensures

pub returns-in-Ok-Ended-clause-turn : goal.returns-in-Ok-Ended-clause-turn
returns-in-Ok-Ended-clause-turn g c =
    ends (λ from live now to step. HeardAt g.S.AnswerSource.hears g.C.Connector g.C.Run.Trial c.args.source.now from live now c.step.new.source to step) g.T.Ticker c.args.self.now _ c.in-Some.live c.now-now.result c.in-Ok-Ended.raced (sym c.take.ensures.value ∙ c.in-Some.is) c.now-now.ensures (rw c.in-Ok-Ended.field-0-is at c.in-Ok-Ended.ensures.polled)

pub returns-in-Err-wake_at-clause-turn : goal.returns-in-Err-wake_at-clause-turn
returns-in-Err-wake_at-clause-turn g c =
    rw c.fault_of.ensures (fails (λ from live now to step. HeardAt g.S.AnswerSource.hears g.C.Connector g.C.Run.Trial c.args.source.now from live now c.step.new.source to step) g.T.Ticker c.args.self.now _ c.in-Some.live c.in-Ok-Waits.live c.now-now.result c.in-Ok-Waits.tick c.now-now.new.self c.in-Err-wake_at.fault (sym c.take.ensures.value ∙ c.in-Some.is) c.now-now.ensures (rw c.in-Ok-Waits.field-0-is at c.in-Ok-Waits.ensures.polled) c.in-Err-wake_at.ensures.step)

pub returns-in-Ok-clause-waits : goal.returns-in-Ok-clause-waits
returns-in-Ok-clause-waits g c =
    race-listens g.C.Connector g.C.Run.Trial c.step.new.cx c.wake_at.new.cx c.args.self.now.live _ c.in-Some.live c.in-Ok-Waits.live (sym c.take.ensures.value ∙ c.in-Some.is) c.put.ensures c.wake_at.ensures.kept (rw c.in-Ok-Waits.field-0-is at c.in-Ok-Waits.ensures.waits)

pub returns-in-Ok-clause-source_waits : goal.returns-in-Ok-clause-source_waits
returns-in-Ok-clause-source_waits g c =
    race-heard g.S.AnswerSource g.C.Connector g.C.Run.Trial c.step.new.cx c.wake_at.new.cx c.args.source.now c.step.new.source c.args.self.now.live _ c.in-Some.live c.in-Ok-Waits.live (sym c.take.ensures.value ∙ c.in-Some.is) c.put.ensures c.wake_at.ensures.kept (rw c.in-Ok-Waits.field-0-is at c.in-Ok-Waits.ensures.source_waits)
