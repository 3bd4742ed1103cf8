use Rattle.he_inputs.proofs.RecordedTexts.{begins_recorded}
use Rattle.he_inputs.proofs.laws.begins_recorded_where_no_fault.Goals as goal

pub returns : goal.returns
returns c = begins_recorded c.begins_where_no_fault.ensures
