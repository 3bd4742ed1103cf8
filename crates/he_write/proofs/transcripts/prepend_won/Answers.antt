use Rattle.he_addr.proofs.Prepended.{prepends_then}
use Rattle.he_write.proofs.transcripts.prepend_won.Goals as goal

pub returns : goal.returns
returns c = prepends_then (prepends_then c.prepend_last-space.ensures.written c.prepend_number-digits.ensures.written) c.prepend_bytes.ensures
