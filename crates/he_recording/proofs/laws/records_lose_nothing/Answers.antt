use Rattle.he_recording.proofs.Losing.{nothing_lost}
use Rattle.he_recording.proofs.laws.records_lose_nothing.Goals as goal

pub returns : goal.returns
returns c = nothing_lost
