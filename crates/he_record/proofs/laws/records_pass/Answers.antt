use Rattle.he_record.proofs.Stands.{record_passes}
use Rattle.he_record.proofs.laws.records_pass.Goals as goal

pub returns : goal.returns
returns c = record_passes
