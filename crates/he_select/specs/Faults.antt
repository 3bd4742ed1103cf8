-- Why rows are not a policy table, and lists not a host's: the first check that fails after the earlier ones pass,
-- and the least place at which it fails.
use Rattle.std.specs.Prelude.{List, All}
use Rattle.he_select.specs.declared.host.HostFault.{HostFault}
use Rattle.he_select.specs.declared.host.HostFault.TheVariants as hosts
use Rattle.he_select.specs.declared.policy.PolicyFault.{PolicyFault}
use Rattle.he_select.specs.declared.policy.PolicyFault.TheVariants as tables
use Rattle.he_select.specs.declared.policy.Row.{Row}
use Rattle.he_select.specs.Hosts.{AddressesDiffer, HasHostSize, HostLists, IsSoundRoute, IsSoundSource, RoutesDiffer, same_route, same_source}
use Rattle.he_select.specs.Places.{FailsFirst, IsFirstPair, IsLeast, repeats_at}
use Rattle.he_select.specs.Tables.{HasPrefix, HasTableSize, PrefixesDiffer, any_address, any_v4_address, same_row, shares_precedence}

abbrev pub IsTableFault : List Row → PolicyFault → Type 0
IsTableFault rows tables.Size = HasTableSize rows → ⊥
IsTableFault rows (tables.Repeated i) = HasTableSize rows × IsLeast (repeats_at same_row rows) i
IsTableFault rows tables.NoDefault = HasTableSize rows × PrefixesDiffer rows × (HasPrefix rows any_address → ⊥)
IsTableFault rows tables.NoMapped =
    HasTableSize rows × PrefixesDiffer rows × HasPrefix rows any_address × (HasPrefix rows any_v4_address → ⊥)
IsTableFault rows (tables.SharedPrecedence i j) =
    HasTableSize rows × PrefixesDiffer rows × HasPrefix rows any_address × HasPrefix rows any_v4_address
    × IsFirstPair shares_precedence rows i j
IsTableFault rows tables.Memory = ⊥

abbrev pub IsHostFault : HostLists → HostFault → Type 0
IsHostFault host hosts.TooMany = HasHostSize host → ⊥
IsHostFault host (hosts.RepeatedSource i) = HasHostSize host × IsLeast (repeats_at same_source host.sources) i
IsHostFault host (hosts.RepeatedRoute i) =
    HasHostSize host × AddressesDiffer host × IsLeast (repeats_at same_route host.routes) i
IsHostFault host (hosts.BadSource i) =
    HasHostSize host × AddressesDiffer host × RoutesDiffer host × FailsFirst IsSoundSource host.sources i
IsHostFault host (hosts.BadRoute i) =
    HasHostSize host × AddressesDiffer host × RoutesDiffer host × All IsSoundSource host.sources
    × FailsFirst IsSoundRoute host.routes i
IsHostFault host hosts.Memory = ⊥
