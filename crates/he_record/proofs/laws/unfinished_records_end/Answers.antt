use Rattle.he_record.proofs.Stands.{unfinished_last}
use Rattle.he_record.proofs.laws.unfinished_records_end.Goals as goal

pub returns : goal.returns
returns c = unfinished_last
