use Rattle.he_inputs.proofs.RecordedFaults.{recorded_not_earlier}
use Rattle.he_inputs.proofs.laws.faults_come_no_earlier.Goals as goal

pub returns : goal.returns
returns c = recorded_not_earlier
