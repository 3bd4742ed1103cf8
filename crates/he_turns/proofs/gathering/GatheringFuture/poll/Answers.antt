use Rattle.std.proofs.Common.{◌∙◌, arith, sym}
use Rattle.he_turns.proofs.Gathered.{gathered-end, gathered-on}
use Rattle.he_turns.proofs.gathering.GatheringFuture.poll.Goals as goal

pub returns-then-is_over-clause-value : goal.returns-then-is_over-clause-value
returns-then-is_over-clause-value g c =
    gathered-end g.S.AnswerSource.hears c.args.self.now.source c.hear.new.source c.args.self.now.gathered c.in-Some.gathered c.min-now.result c.hear.new.self.recorded c.finish.result (sym c.take.ensures.value ∙ c.in-Some.is) c.in-Ok.ensures.heard c.finish.ensures.value (sym c.is_over.ensures ∙ c.if-is_over.true) (omega (arith, c.min-now.ensures))

pub returns-in-Ok-wake_at-clause-same : goal.returns-in-Ok-wake_at-clause-same
returns-in-Ok-wake_at-clause-same g c x h =
    gathered-on g.S.AnswerSource.hears c.args.self.now.source c.hear.new.source c.args.self.now.gathered c.in-Some.gathered c.hear.new.self c.min-now.result x (sym c.take.ensures.value ∙ c.in-Some.is) c.in-Ok.ensures.heard h
