use Rattle.he_addr.proofs.Prepended.{prepends_then}
use Rattle.he_write.proofs.transcripts.prepend_last.Goals as goal

pub returns-clause-written : goal.returns-clause-written
returns-clause-written c = prepends_then (prepends_then c.prepend_byte-line_end.ensures c.prepend_number-digits.ensures.written) c.prepend_bytes.ensures
