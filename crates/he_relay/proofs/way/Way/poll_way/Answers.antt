use Rattle.he_relay.proofs.Moved.{no_step, one_step_more}
use Rattle.he_relay.proofs.way.Way.poll_way.Goals as goal

pub loop-init : goal.loop-init
loop-init g c =
    (no_step _ _ _ g.met.R.AsyncRead.reads_nothing g.met.W.AsyncWrite.writes_nothing c.args.self.now c.args.reader.now c.args.writer.now, λ fact holds. holds)

pub returns-in-loop-clause-moves : goal.returns-in-loop-clause-moves
returns-in-loop-clause-moves g c =
    one_step_more _ _ _ g.met.R.AsyncRead.reads_in_order g.met.W.AsyncWrite.writes_in_order _ _ _ _ _ _ _ _ _ c.loop.invariant.0 c.poll_step.ensures.moves

pub returns-in-Err-clause-moves : goal.returns-in-Err-clause-moves
returns-in-Err-clause-moves g c =
    one_step_more _ _ _ g.met.R.AsyncRead.reads_in_order g.met.W.AsyncWrite.writes_in_order _ _ _ _ _ _ _ _ _ c.loop.invariant.0 c.poll_step.ensures.moves

pub loop-preserved : goal.loop-preserved
loop-preserved g c = (
  one_step_more _ _ _ g.met.R.AsyncRead.reads_in_order g.met.W.AsyncWrite.writes_in_order _ _ _ _ _ _ _ _ _ c.loop.invariant.0 c.poll_step.ensures.moves,
  λ fact holds. c.poll_step.ensures.kept fact (c.loop.invariant.1 fact holds),
)
