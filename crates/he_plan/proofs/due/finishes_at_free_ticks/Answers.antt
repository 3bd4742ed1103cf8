use Rattle.he_plan.proofs.Dueness.{finish-succeeded, finish-failed, finish-silent}
use Rattle.he_plan.proofs.due.finishes_at_free_ticks.Goals as goal

pub returns-clause-succeeded : goal.returns-clause-succeeded
returns-clause-succeeded c = finish-succeeded

pub returns-clause-failed : goal.returns-clause-failed
returns-clause-failed c = finish-failed

pub returns-clause-silent : goal.returns-clause-silent
returns-clause-silent c = finish-silent
