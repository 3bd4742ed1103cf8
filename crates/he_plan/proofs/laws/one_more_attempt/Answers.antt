use Rattle.he_plan.proofs.InTurn.{in_turn-more, in_turn-none}
use Rattle.he_plan.proofs.laws.one_more_attempt.Goals as goal

pub returns-clause-none : goal.returns-clause-none
returns-clause-none c = in_turn-none

pub returns-clause-more : goal.returns-clause-more
returns-clause-more c = in_turn-more
