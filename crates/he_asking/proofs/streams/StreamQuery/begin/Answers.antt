use Rattle.std.proofs.Common.{◌∙◌}
use Rattle.he_asking.proofs.streams.StreamQuery.begin.Goals as goal

pub returns-clause-sends : goal.returns-clause-sends
returns-clause-sends g c = (c.args.room, c.deref.result.now, c.deref.ensures.value ∙ c.in_ok-message.ensures, c.in_ok-request.ensures.framed)
