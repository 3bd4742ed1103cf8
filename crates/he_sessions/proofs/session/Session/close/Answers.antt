use Rattle.std.proofs.Common.{refl}
use Rattle.he_sessions.proofs.Going.{is_closed}
use Rattle.he_sessions.proofs.session.Session.close.Goals as goal

pub returns-clause-told : goal.returns-clause-told
returns-clause-told g c = λ first said told talks last. is_closed _ _ first _ _ _ _ _ _ _ refl refl talks last
