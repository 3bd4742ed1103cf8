use Rattle.he_reading.proofs.CompleteFaults.{begins_right, right_begins}
use Rattle.he_reading.proofs.laws.begins_where_no_fault.Goals as goal

pub returns : goal.returns
returns c = λ text. (begins_right text, right_begins text)
