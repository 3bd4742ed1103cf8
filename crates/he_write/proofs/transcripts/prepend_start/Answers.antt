use Rattle.he_addr.proofs.Prepended.{prepends_then}
use Rattle.he_write.proofs.transcripts.prepend_start.Goals as goal

pub returns : goal.returns
returns c =
    prepends_then (prepends_then (prepends_then (prepends_then c.prepend_byte-behind.ensures c.prepend_number-start.ensures.written) c.prepend_byte-space.ensures) c.prepend_number-digits.ensures.written)
    c.prepend_bytes.ensures
