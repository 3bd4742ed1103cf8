use Rattle.he_plan.proofs.Few.{plan-few, plan-most}
use Rattle.he_plan.proofs.laws.no_more_attempts_than_addresses.Goals as goal

pub returns-clause-addresses : goal.returns-clause-addresses
returns-clause-addresses c = plan-few

pub returns-clause-limit : goal.returns-clause-limit
returns-clause-limit c = plan-most
