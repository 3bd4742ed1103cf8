use Rattle.std.proofs.Common.{ap}
use Rattle.std.specs.Prelude.{is_none}
use Rattle.he_select.proofs.Hosted.{first_host_fault, host_from, no_fault_from}
use Rattle.he_select.proofs.laws.hosts_have_no_fault.Goals as goal

pub returns : goal.returns
returns c = record {
  host = λ host. (no_fault_from host, λ e. host_from host (ap is_none e));
  first = first_host_fault;
}
