use Rattle.he_text.proofs.RereadTexts.{written_is_read}
use Rattle.he_text.proofs.laws.written_reads_back.Goals as goal

pub returns : goal.returns
returns c = written_is_read
