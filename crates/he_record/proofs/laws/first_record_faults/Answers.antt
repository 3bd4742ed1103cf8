use Rattle.he_record.proofs.FrontLaws.{fault_is_first, first_is_fault}
use Rattle.he_record.proofs.laws.first_record_faults.Goals as goal

pub returns : goal.returns
returns c = λ text line kind. (fault_is_first text line kind, first_is_fault text line kind)
