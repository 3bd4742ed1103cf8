-- The loops that look for a row and a route find the longest containing prefix.
use Rattle.std.proofs.Common.{◌≡◌, List}
use Rattle.std.specs.Prelude.{None}
use Rattle.std.specs.Cmp.{IsStrictWeakOrder}
use Rattle.std.proofs.lemmas.List.Sorted.{IsStrictWeakOrder-flip, IsStrictWeakOrder-by_number}
use Rattle.he_addr.specs.declared.ip.Ip.{Ip}
use Rattle.he_addr.specs.Prefix.{contains}
use Rattle.he_select.specs.declared.host.Route.{Route}
use Rattle.he_select.specs.declared.policy.Row.{Row}
use Rattle.he_select.specs.Selection.{is_longer_route, longest_route, serves}
use Rattle.he_select.specs.Tables.{row_of, is_longer_row}
use Rattle.he_select.specs.Walking.{walk_fitting}
use Rattle.he_select.proofs.Walks.{best_fitting}

pub rows_by_length : IsStrictWeakOrder is_longer_row
rows_by_length = IsStrictWeakOrder-flip _ (IsStrictWeakOrder-by_number (λ (row : Row). row.prefix.len))

pub row_walked : (rows : List Row) (ip : Ip) → walk_fitting (λ row. contains row.prefix ip) is_longer_row None rows ≡ row_of rows ip
unfolding row_of
row_walked rows ip = best_fitting is_longer_row rows_by_length (λ row. contains row.prefix ip) rows

routes_by_length : IsStrictWeakOrder is_longer_route
routes_by_length = IsStrictWeakOrder-flip _ (IsStrictWeakOrder-by_number (λ (route : Route). route.prefix.len))

pub route_walked : (routes : List Route) (ip : Ip) → walk_fitting (serves ip) is_longer_route None routes ≡ longest_route routes ip
unfolding longest_route
route_walked routes ip = best_fitting is_longer_route routes_by_length (serves ip) routes
