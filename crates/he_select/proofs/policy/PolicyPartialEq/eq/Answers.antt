use Rattle.he_select.proofs.Equality.{decided, tables_decide}
use Rattle.he_select.proofs.policy.PolicyPartialEq.eq.Goals as goal

pub returns-clause-rows : goal.returns-clause-rows
returns-clause-rows g c = decided (tables_decide c.args.self.now c.args.other.now) c.has_rows_of.ensures
