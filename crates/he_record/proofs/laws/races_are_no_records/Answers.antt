use Rattle.he_record.proofs.Stands.{race_is_no_record}
use Rattle.he_record.proofs.laws.races_are_no_records.Goals as goal

pub returns : goal.returns
returns c = race_is_no_record
