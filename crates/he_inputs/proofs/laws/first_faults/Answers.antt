use Rattle.he_inputs.proofs.FirstFaults.{first_fault_is, is_first_fault}
use Rattle.he_inputs.proofs.laws.first_faults.Goals as goal

pub returns : goal.returns
returns c = λ text line kind. (first_fault_is text line kind, is_first_fault text line kind)
