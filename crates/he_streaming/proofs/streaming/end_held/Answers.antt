use Rattle.he_streaming.specs.Rounds.{IsAsked}
use Rattle.he_streaming.proofs.RoundEnd.{none_told}
use Rattle.he_streaming.proofs.streaming.end_held.Goals as goal

pub put_round-requires-clause-begun : goal.put_round-requires-clause-begun
put_round-requires-clause-begun g c = none_told (IsAsked c.args.asked.now) _ c.args.held.now.reader _ c.requires.front.0 c.requires.front.1 c.clear.ensures.items
