use Rattle.he_plan.proofs.Dueness.{due-no_sooner, due-at, due-never, due-one}
use Rattle.he_plan.proofs.due.starts_when_due.Goals as goal

pub returns-clause-no_sooner : goal.returns-clause-no_sooner
returns-clause-no_sooner c = due-no_sooner

pub returns-clause-at : goal.returns-clause-at
returns-clause-at c = due-at

pub returns-clause-never : goal.returns-clause-never
returns-clause-never c = due-never

pub returns-clause-one : goal.returns-clause-one
returns-clause-one c = due-one
