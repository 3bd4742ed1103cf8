use Rattle.he_inputs.proofs.Beginnings.{one_race_first}
use Rattle.he_inputs.proofs.RecordedTexts.{one_recorded_first}
use Rattle.he_inputs.proofs.laws.one_race_first.Goals as goal

pub returns : goal.returns
returns c = one_recorded_first one_race_first
