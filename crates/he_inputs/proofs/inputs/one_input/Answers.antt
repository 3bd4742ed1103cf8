use Rattle.he_inputs.proofs.OneInput.{one_input}
use Rattle.he_inputs.proofs.inputs.one_input.Goals as goal

pub returns : goal.returns
returns c = one_input c.one_race_first.ensures c.begins_recorded_where_no_fault.ensures
