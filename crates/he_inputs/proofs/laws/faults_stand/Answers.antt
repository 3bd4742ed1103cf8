use Rattle.he_inputs.proofs.RecordedFaults.{recorded_stands}
use Rattle.he_inputs.proofs.laws.faults_stand.Goals as goal

pub returns : goal.returns
returns c = recorded_stands
