use Rattle.he_inputs.proofs.RecordedFaults.{first_recorded, recorded_first}
use Rattle.he_inputs.proofs.laws.first_recorded_faults.Goals as goal

pub returns : goal.returns
returns c = λ text line kind. (first_recorded text line kind, recorded_first text line kind)
