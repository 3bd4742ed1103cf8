use Rattle.std.proofs.Common.{inr}
use Rattle.he_turns.proofs.Heard.{silent-stays}
use Rattle.he_turns.proofs.answers.NoAnswersAnswerSource.poll_answer.Goals as goal

pub returns-clause-waits : goal.returns-clause-waits
returns-clause-waits c = inr (silent-stays _ (λ s family now told left h. h.0) _ _)
