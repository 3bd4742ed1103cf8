use Rattle.std.proofs.Common.{ap}
use Rattle.std.specs.Prelude.{is_none}
use Rattle.he_select.proofs.Admitted.{admitted_from, first_table_fault, no_fault_from}
use Rattle.he_select.proofs.laws.tables_have_no_fault.Goals as goal

pub returns : goal.returns
returns c = record {
  admitted = λ rows. (no_fault_from rows, λ e. admitted_from rows (ap is_none e));
  first = first_table_fault;
}
