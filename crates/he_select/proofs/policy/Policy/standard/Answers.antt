use Rattle.std.proofs.Common.{refl}
use Rattle.he_select.specs.Standard.{standard_rows}
use Rattle.he_select.proofs.Standards.{standard_admits}
use Rattle.he_select.proofs.policy.Policy.standard.Goals as goal

pub invariant_of-result : goal.invariant_of-result
invariant_of-result g c = standard_admits standard_rows refl
