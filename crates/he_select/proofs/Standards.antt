-- The standard table is admitted.
use Rattle.std.proofs.Common.{◌≡◌, List, refl, sym, subst}
use Rattle.he_select.specs.declared.policy.Row.{Row}
use Rattle.he_select.proofs.Admitted.{admitted_from}
use Rattle.he_select.specs.Standard.{standard_rows}
use Rattle.he_select.specs.TableFaults.{table_fault}
use Rattle.he_select.specs.Tables.{IsAdmitted}

standard_admitted : IsAdmitted standard_rows
unfolding table_fault
standard_admitted = admitted_from standard_rows refl

pub standard_admits : (rows : List Row) → rows ≡ standard_rows → IsAdmitted rows
standard_admits rows e = subst (λ rows. IsAdmitted rows) (sym e) standard_admitted
