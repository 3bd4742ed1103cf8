use Rattle.he_reading.proofs.CompleteTexts.{no_longer}
use Rattle.he_text.proofs.laws.no_race_is_a_prefix.Goals as goal

pub returns : goal.returns
returns c = λ text more race other is longer. (no_longer text more race other is longer).1
