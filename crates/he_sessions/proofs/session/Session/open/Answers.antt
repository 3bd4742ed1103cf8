use Rattle.std.proofs.Common.{subst}
use Rattle.he_sessions.specs.Sessions.{HasAsked}
use Rattle.he_handshake.specs.declared.asking.Wanted.{Wanted}
use Rattle.he_sessions.proofs.session.Session.open.Goals as goal

pub returns-in-Response-clause-asked : goal.returns-in-Response-clause-asked
returns-in-Response-clause-asked g c = λ first at.
    c.forward.ensures.asked first (subst (λ (w : Wanted). HasAsked g.Q.Stream.AsyncRead.reads g.Q.Stream.AsyncWrite.writes first (g.Q.Racer.all_users c.args.self.now.asker.racer.now) c.args.self.now.asked c.args.client c.args.early.items w) c.in-Response.is at)
