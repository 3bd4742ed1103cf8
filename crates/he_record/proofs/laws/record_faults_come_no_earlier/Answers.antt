use Rattle.he_record.proofs.Stands.{fault_no_earlier}
use Rattle.he_record.proofs.laws.record_faults_come_no_earlier.Goals as goal

pub returns : goal.returns
returns c = fault_no_earlier
