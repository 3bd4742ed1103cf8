use Rattle.std.proofs.Common.{◌≡◌, sym, subst, rules}
use Rattle.std.specs.Prelude.{None}
use Rattle.he_select.specs.Tables.{IsAdmitted}
use Rattle.he_select.proofs.Admitted.{admitted_by}
use Rattle.he_select.proofs.policy.Policy.from_rows.Goals as goal

pub invariant_of-result : goal.invariant_of-result
invariant_of-result g c =
    let items : c.in_ok-rows.rows.items ≡ c.args.rows.now = search rules in
    let none : c.find.result ≡ None = c.in_default.is in
    subst IsAdmitted (sym items) (admitted_by c.args.rows.now c.find.result c.find.ensures none)
