use Rattle.std.proofs.Common.{[], take}
use Rattle.he_response.proofs.Coming.{returns_counted}
use Rattle.he_response.specs.Returns.{goes_nowhere}
use Rattle.he_response.proofs.returned.Returned.poll_body.Goals as goal

pub returns-in-Ready-Ok-eq0-clause-bytes : goal.returns-in-Ready-Ok-eq0-clause-bytes
returns-in-Ready-Ok-eq0-clause-bytes g c =
    let came = rw c.in-Ready-Ok-eq0.field-0-is at c.in-Ready-Ok-eq0.ensures.bytes in
    record { came = []; read = rw c.in-Ready-Ok-eq0.field-0-0-test at came; goes_on = goes_nowhere c.args.self.now.answer }

pub returns-in-Ready-Err-clause-bytes : goal.returns-in-Ready-Err-clause-bytes
returns-in-Ready-Err-clause-bytes g c = record {
  came = [];
  read = rw c.in-Ready-Err.field-0-is at c.in-Ready-Err.ensures.bytes;
  goes_on = goes_nowhere c.args.self.now.answer;
}

pub returns-in-Pending-clause-bytes : goal.returns-in-Pending-clause-bytes
returns-in-Pending-clause-bytes g c = record {
  came = [];
  read = c.in-Pending.ensures.bytes;
  goes_on = goes_nowhere c.args.self.now.answer;
}

pub returns-in-Ok-clause-bytes : goal.returns-in-Ok-clause-bytes
returns-in-Ok-clause-bytes g c =
    let came = rw c.in-Ready-Ok.field-0-is at c.in-Ready-Ok.ensures.bytes in
    let bound = rw c.in-Ready-Ok.field-0-is at c.in-Ready-Ok.ensures.bound in
    returns_counted g.R.AsyncRead.reads c.args.self.now _ c.poll_read.new.buf c.in-Ready-Ok.count c.in-Ok.taken came bound c.in-Ok.ensures.within
    c.in-Ok.ensures.taken

pub returns-in-Err-clause-bytes : goal.returns-in-Err-clause-bytes
returns-in-Err-clause-bytes g c = record {
  came = take c.in-Ready-Ok.count c.poll_read.new.buf;
  read = rw c.in-Ready-Ok.field-0-is at c.in-Ready-Ok.ensures.bytes;
  goes_on = c.in-Err.ensures.never;
}
