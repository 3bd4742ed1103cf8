use Rattle.std.proofs.Common.{inr}
use Rattle.he_tasks.proofs.session.put_all.Goals as goal

pub returns-in-Err : goal.returns-in-Err
returns-in-Err g c = inr (c.report_unwritten.ensures.status, rw c.report_unwritten.ensures.output c.in-Err.ensures.err)
