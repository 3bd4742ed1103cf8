use Rattle.he_reading.proofs.CompleteTexts.{one_value}
use Rattle.he_text.proofs.laws.one_race.Goals as goal

pub returns : goal.returns
returns c = one_value
