use Rattle.he_sessions.proofs.Going.{no_response_last}
use Rattle.he_sessions.proofs.session.Session.excuse.Goals as goal

pub returns-in-Ok-clause-told : goal.returns-in-Ok-clause-told
returns-in-Ok-clause-told g c = λ first said talks.
    c.close.ensures.told first said _ talks (no_response_last _ c.in-Ok.ensures)
