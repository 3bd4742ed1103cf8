use Rattle.std.proofs.Common.{◌∙◌, ap, sym}
use Rattle.tokio.specs.Io.Moved.{bytes_moved, count_moved}
use Rattle.he_response.proofs.Coming.{goes_through}
use Rattle.he_response.specs.Returns.{returns_nothing}
use Rattle.he_response.proofs.returned.ReturnedAsyncRead.poll_read.Goals as goal

pub returns-then-holds-clause-end : goal.returns-then-holds-clause-end
returns-then-holds-clause-end g c = λ same room.
    absurd (c.holds.ensures.some c.if-holds.true (c.give.ensures.none (ap count_moved same) room))

pub returns-in-Body-Over-clause-bytes : goal.returns-in-Body-Over-clause-bytes
returns-in-Body-Over-clause-bytes g c = returns_nothing g.R.AsyncRead.reads g.met.R.AsyncRead.reads_nothing c.args.self.now

pub returns-in-Rest-clause-bytes : goal.returns-in-Rest-clause-bytes
returns-in-Rest-clause-bytes g c = record {
  came = bytes_moved c.poll_read.result c.poll_read.new.buf;
  read = c.poll_read.ensures.bytes;
  goes_on = goes_through c.args.self.now.answer (bytes_moved c.poll_read.result c.poll_read.new.buf)
      (sym c.part.ensures ∙ c.in-Rest.is) (c.holds.ensures.none c.if-holds.false);
}

pub returns-in-Broken-clause-bytes : goal.returns-in-Broken-clause-bytes
returns-in-Broken-clause-bytes g c = returns_nothing g.R.AsyncRead.reads g.met.R.AsyncRead.reads_nothing c.args.self.now
