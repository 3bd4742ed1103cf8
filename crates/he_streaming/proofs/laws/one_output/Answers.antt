use Rattle.he_streaming.proofs.OneOutput.{one_output}
use Rattle.he_streaming.proofs.laws.one_output.Goals as goal

pub returns : goal.returns
returns c = one_output c.one_input.ensures c.one_transcript.ensures c.one_race_first.ensures
