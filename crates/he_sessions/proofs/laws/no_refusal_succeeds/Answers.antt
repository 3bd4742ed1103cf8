use Rattle.he_sessions.proofs.Unlike.{no_refusal_succeeds}
use Rattle.he_sessions.proofs.laws.no_refusal_succeeds.Goals as goal

pub returns : goal.returns
returns c = no_refusal_succeeds
