use Rattle.he_sessions.proofs.Going.{refused_last}
use Rattle.he_sessions.proofs.session.Session.refuse.Goals as goal

pub returns-in-Ok-clause-told : goal.returns-in-Ok-clause-told
returns-in-Ok-clause-told g c = λ first said talks.
    c.close.ensures.told first said _ talks
    (refused_last (g.Q.Racer.all_users c.args.self.now.asker.racer.now) _ _ _ said c.requires.failure c.in-Ok.ensures)
