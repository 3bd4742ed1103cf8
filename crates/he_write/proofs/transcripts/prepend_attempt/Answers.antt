use Rattle.he_addr.proofs.Prepended.{prepends_as, prepends_then}
use Rattle.he_write.proofs.LineTexts.{attempt_is}
use Rattle.he_write.proofs.transcripts.prepend_attempt.Goals as goal

pub returns : goal.returns
returns c =
    prepends_as (attempt_is c.args.line c.args.line.mark)
    (prepends_then (prepends_then c.prepend_mark-mark.ensures.written c.prepend_ip-address.ensures.written) c.prepend_start.ensures)
