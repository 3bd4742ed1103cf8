use Rattle.he_inputs.proofs.PlainTexts.{same_races}
use Rattle.he_inputs.proofs.laws.records_change_no_race.Goals as goal

pub returns : goal.returns
returns c = same_races
