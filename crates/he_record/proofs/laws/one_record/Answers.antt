use Rattle.he_record.proofs.Stands.{one_value}
use Rattle.he_record.proofs.laws.one_record.Goals as goal

pub returns : goal.returns
returns c = one_value
