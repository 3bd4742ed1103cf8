use Rattle.std.proofs.Common.{refl, sym}
use Rattle.he_sessions.proofs.Forwarded.{is_sent_of}
use Rattle.he_sessions.proofs.Talking.{talks_as}
use Rattle.he_sessions.proofs.session.Session.forward.Goals as goal

pub returns-in-Ok-sent_on-clause-asked : goal.returns-in-Ok-sent_on-clause-asked
returns-in-Ok-sent_on-clause-asked g c = λ first at.
    is_sent_of _ _ first _ _ _ _ _ _ _ c.args.outgoing c.args.early.items _ _ _ _ c.deref.ensures.value c.deref-2.ensures.value c.in-Ok-sent_on.ensures
    c.in-Ok.ensures.found (record { given = c.requires.won; noted = refl }) at

pub returns-in-Err-clause-asked : goal.returns-in-Err-clause-asked
returns-in-Err-clause-asked g c = λ first at.
    c.lose.ensures.told first _ (talks_as _ _ first _ _ _ _ _ _ _ _ refl (sym c.in-Err.ensures.none) refl refl at.talks)
