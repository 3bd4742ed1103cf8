use Rattle.he_forward.proofs.Named.{at_80, of_none}
use Rattle.he_forward.proofs.target.asked_of.Goals as goal

pub returns-in-Ok-None : goal.returns-in-Ok-None
returns-in-Ok-None g c = at_80 c.args.authority.now c.asked_at_80.result (of_none _ c.in-Ok-None.field-0 c.in-Ok-None.field-0-is c.in-Ok-None.ensures) c.asked_at_80.ensures
