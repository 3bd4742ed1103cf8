use Rattle.he_next.proofs.StepLaws.{starts_now, waits_later}
use Rattle.he_next.proofs.laws.in_time.Goals as goal

pub returns-clause-starts : goal.returns-clause-starts
returns-clause-starts c = starts_now

pub returns-clause-waits : goal.returns-clause-waits
returns-clause-waits c = waits_later
