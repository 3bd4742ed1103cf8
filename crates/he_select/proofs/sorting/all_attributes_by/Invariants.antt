use Rattle.std.proofs.Common.{◌≡◌, drop, map, ◌++◌}
use Rattle.std.specs.List.{AllWithin}
use Rattle.he_addr.specs.Ip.{InRange}
use Rattle.he_select.specs.Attributes.{attributes_from}
use Rattle.he_select.specs.LookUps.{rows_of}
use Rattle.he_select.proofs.sorting.all_attributes_by.Given as goal

abbrev pub invariant-loop-ip : goal.invariant-loop-ip
invariant-loop-ip g l =
    (l.all_attributes.items ++ map (attributes_from (rows_of l.table) l.routes l.sources l.told) (drop l.ip-index l.addresses) ≡ map (attributes_from (rows_of l.table) l.routes l.sources l.told) l.addresses)
    × AllWithin InRange l.addresses 0 l.ip-index
