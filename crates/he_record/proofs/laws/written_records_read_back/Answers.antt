use Rattle.he_record.proofs.Rereading.{written_is_read}
use Rattle.he_record.proofs.laws.written_records_read_back.Goals as goal

pub returns : goal.returns
returns c = written_is_read
