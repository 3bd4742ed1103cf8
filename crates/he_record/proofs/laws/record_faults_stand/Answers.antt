use Rattle.he_record.proofs.Stands.{fault_stands}
use Rattle.he_record.proofs.laws.record_faults_stand.Goals as goal

pub returns : goal.returns
returns c = fault_stands
