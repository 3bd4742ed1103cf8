use Rattle.std.proofs.Common.{[], refl, arith}
use Rattle.he_relay.proofs.Moved.{one_put, put_counted}
use Rattle.he_relay.proofs.way.Way.poll_step.Goals as goal

pub returns-then-self-clause-moves : goal.returns-then-self-clause-moves
returns-then-self-clause-moves g c =
    put_counted _ _ _ g.met.R.AsyncRead.reads_nothing _ _ _ _ _ _ c.poll_put.ensures.bytes c.poll_put.ensures.bound c.poll_put.ensures.rest

pub returns-in-Ok-clause-moves : goal.returns-in-Ok-clause-moves
returns-in-Ok-clause-moves g c =
    put_counted _ _ _ g.met.R.AsyncRead.reads_nothing _ _ _ _ _ _ c.poll_put.ensures.bytes c.poll_put.ensures.bound c.poll_put.ensures.rest

pub returns-in-Ok-eq0-clause-moves : goal.returns-in-Ok-eq0-clause-moves
returns-in-Ok-eq0-clause-moves g c =
    put_counted _ _ _ g.met.R.AsyncRead.reads_nothing _ _ _ _ _ _ c.poll_put.ensures.bytes c.poll_put.ensures.bound c.poll_put.ensures.rest

pub returns-in-Ok-eq0-2-clause-moves : goal.returns-in-Ok-eq0-2-clause-moves
returns-in-Ok-eq0-2-clause-moves g c =
    put_counted _ _ _ g.met.R.AsyncRead.reads_nothing _ _ _ _ _ _ c.poll_put.ensures.bytes c.poll_put.ensures.bound c.poll_put.ensures.rest

pub returns-then-self-2-clause-moves : goal.returns-then-self-2-clause-moves
returns-then-self-2-clause-moves g c =
    one_put _ _ _ g.met.R.AsyncRead.reads_nothing c.args.self.now _ _ _ _ [] refl c.poll_shutdown.ensures.bytes refl (omega (arith, c.args.self.now.fits))

pub returns-in-Ok-ready-clause-moves : goal.returns-in-Ok-ready-clause-moves
returns-in-Ok-ready-clause-moves g c =
    one_put _ _ _ g.met.R.AsyncRead.reads_nothing c.args.self.now _ _ _ _ [] refl c.poll_shutdown.ensures.bytes refl (omega (arith, c.args.self.now.fits))

pub returns-in-Err-clause-moves : goal.returns-in-Err-clause-moves
returns-in-Err-clause-moves g c =
    one_put _ _ _ g.met.R.AsyncRead.reads_nothing c.args.self.now _ _ _ _ [] refl c.poll_shutdown.ensures.bytes refl (omega (arith, c.args.self.now.fits))
