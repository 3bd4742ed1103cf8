use Rattle.he_inputs.proofs.RecordedFaults.{recorded_changes}
use Rattle.he_inputs.proofs.laws.mendable_faults_change.Goals as goal

pub returns : goal.returns
returns c = recorded_changes
