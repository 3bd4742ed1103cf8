use Rattle.he_plan.proofs.Lawful.{seen_past-more, is_paused-more}
use Rattle.he_plan.proofs.laws.one_more_pause.Goals as goal

pub returns-clause-seen : goal.returns-clause-seen
returns-clause-seen c = seen_past-more

pub returns-clause-covered : goal.returns-clause-covered
returns-clause-covered c = is_paused-more
