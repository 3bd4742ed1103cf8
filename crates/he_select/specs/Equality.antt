-- Mirrors the code: equality of two tables or two hosts, field by field. A law in proofs/ shows that it is equality
-- of the lists.
use Rattle.std.specs.Prelude.{◌==◌, ◌&&◌, Bool, List}
use Rattle.std.specs.Bool.{beq}
use Rattle.std.specs.Cmp.Lexicographic.{pointwise}
use Rattle.he_addr.specs.Ip.{same_ip}
use Rattle.he_select.specs.declared.host.Route.{Route}
use Rattle.he_select.specs.declared.host.Source.{Source}
use Rattle.he_select.specs.declared.policy.Row.{Row}
use Rattle.he_select.specs.Hosts.{HostLists}
use Rattle.he_select.specs.Tables.{same_prefix}

abbrev pub equal_row : Row → Row → Bool
equal_row a b = same_prefix a.prefix b.prefix && a.precedence == b.precedence && a.label == b.label

abbrev pub equal_source : Source → Source → Bool
equal_source a b =
    same_ip a.ip b.ip && a.plen == b.plen && a.interface == b.interface && beq a.deprecated b.deprecated
    && beq a.temporary b.temporary

abbrev pub equal_route : Route → Route → Bool
equal_route a b = same_prefix a.prefix b.prefix && a.interface == b.interface && beq a.tunnel b.tunnel

abbrev pub equal_tables : List Row → List Row → Bool
equal_tables x y = pointwise equal_row x y

abbrev pub equal_hosts : HostLists → HostLists → Bool
equal_hosts x y = pointwise equal_source x.sources y.sources && pointwise equal_route x.routes y.routes
