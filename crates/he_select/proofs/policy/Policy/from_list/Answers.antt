use Rattle.std.proofs.Common.{◌≡◌, ◌∙◌, ap}
use Rattle.std.specs.Prelude.{None}
use Rattle.he_select.specs.TableFaults.{table_fault}
use Rattle.he_select.proofs.Admitted.{admitted_by}
use Rattle.he_select.proofs.policy.Policy.from_list.Goals as goal

pub invariant_of-result : goal.invariant_of-result
invariant_of-result g c =
    let none : c.find.result ≡ None = c.in_default.is in
    let found = c.find.ensures ∙ ap table_fault c.deref.ensures.value in
    admitted_by c.args.rows.items c.find.result found none
