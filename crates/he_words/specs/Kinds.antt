-- The text faults that correspond to the faults of a timeline's builder, of a policy table and of a host.
use Rattle.he_timeline.specs.declared.builder.BuildFault.{BuildFault}
use Rattle.he_timeline.specs.declared.builder.BuildFault.TheVariants as faults
use Rattle.he_select.specs.declared.policy.PolicyFault.{PolicyFault}
use Rattle.he_select.specs.declared.policy.PolicyFault.TheVariants as tables
use Rattle.he_select.specs.declared.host.HostFault.{HostFault}
use Rattle.he_select.specs.declared.host.HostFault.TheVariants as hosts
use Rattle.he_words.specs.declared.fault.TextKind.{TextKind}
use Rattle.he_words.specs.declared.fault.TextKind.TheVariants as kinds

-- the text fault for a fault of a timeline's builder
abbrev pub kind_of : BuildFault → TextKind
kind_of faults.Answered = kinds.Repeated
kind_of faults.Range = kinds.Range
kind_of faults.TooMany = kinds.TooMany
kind_of faults.Stranger = kinds.Address
kind_of faults.Repeated = kinds.Repeated
kind_of faults.Memory = kinds.Memory

-- the text fault for a fault of a policy table, and of a host
abbrev pub table_kind : PolicyFault → TextKind
table_kind tables.Size = kinds.TooMany
table_kind (tables.Repeated place) = kinds.Repeated
table_kind tables.Memory = kinds.Memory
table_kind fault = kinds.Policy fault

abbrev pub host_kind : HostFault → TextKind
host_kind hosts.TooMany = kinds.TooMany
host_kind (hosts.RepeatedSource place) = kinds.Repeated
host_kind (hosts.RepeatedRoute place) = kinds.Repeated
host_kind (hosts.BadSource place) = kinds.Range
host_kind (hosts.BadRoute place) = kinds.Range
host_kind hosts.Memory = kinds.Memory
