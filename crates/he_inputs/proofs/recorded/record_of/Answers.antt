use Rattle.he_inputs.proofs.RecordedTexts.{read_is_said}
use Rattle.he_inputs.proofs.recorded.record_of.Goals as goal

pub returns-in-Ok : goal.returns-in-Ok
returns-in-Ok g c = read_is_said c.args.text.now _ _ c.in-Ok.ensures.read
