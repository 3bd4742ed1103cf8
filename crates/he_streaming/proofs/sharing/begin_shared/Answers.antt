use Rattle.he_streaming.specs.Rounds.{IsAsked}
use Rattle.he_streaming.proofs.RoundEnd.{none_told}
use Rattle.he_streaming.proofs.sharing.begin_shared.Goals as goal

pub returns-then-enough-eq-LEAST_WORKERS : goal.returns-then-enough-eq-LEAST_WORKERS
returns-then-enough-eq-LEAST_WORKERS g c = none_told (IsAsked c.args.asked.now) _ c.args.held.now.reader _ c.requires.front.0 c.requires.front.1 c.clear.ensures.items
