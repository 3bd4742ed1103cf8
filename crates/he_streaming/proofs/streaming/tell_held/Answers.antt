use Rattle.he_streaming.proofs.Ends.{told_none}
use Rattle.he_streaming.proofs.streaming.tell_held.Goals as goal

pub returns-then-reach-eq0-clause-told : goal.returns-then-reach-eq0-clause-told
returns-then-reach-eq0-clause-told g c = told_none _ _ _ _ _ _ _ c.requires.front.0 c.requires.front.1
