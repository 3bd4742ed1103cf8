use Rattle.he_record.proofs.Rereading.{written_is_read}
use Rattle.he_record.proofs.laws.record_reads_back.Goals as goal

pub returns : goal.returns
returns g c = written_is_read c.args.told.now c.lines-lines.ensures.valid
