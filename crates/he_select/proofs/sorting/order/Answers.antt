use Rattle.std.proofs.Common.{◌≡◌, List, [], sym, ◌∙◌, ap, subst}
use Rattle.std.specs.List.{list_all}
use Rattle.he_addr.specs.declared.ip.Ip.{Ip}
use Rattle.he_select.specs.HostFaults.{is_sound_source}
use Rattle.he_select.specs.Preference.{IsOrder, order_of}
use Rattle.he_select.specs.Selection.{SelectionInput, selection_input}
use Rattle.he_select.specs.Tables.{IsAdmitted}
use Rattle.he_select.specs.LookUps.{rows_of}
use Rattle.he_select.proofs.Hosted.{all_sound, given_is}
use Rattle.he_select.proofs.sorting.order.Goals as goal

pub sort_addresses-requires : goal.sort_addresses-requires
sort_addresses-requires g c = record {
  admitted = subst IsAdmitted (sym c.table.ensures.rows) c.table.ensures.admitted;
  sound = ap (list_all is_sound_source) c.sources.ensures.sources ∙ all_sound c.args.host.now c.sources.ensures.host;
  usable = c.requires;
}

pub returns : goal.returns
returns g c =
    let ips : List Ip = c.args.addresses.now in
    let input : SelectionInput = selection_input c.args.policy.now c.args.host.now in
    let same : ◌≡◌ {A = SelectionInput} (record { rows = rows_of c.table.result; sources = c.sources.result.now; routes = c.routes.result.now; known = [] }) input =
    given_is c.args.policy.now (rows_of c.table.result) c.args.host.now c.sources.result.now c.routes.result.now [] c.table.ensures.rows c.sources.ensures.sources c.routes.ensures.routes in
    let value : c.in_ok-sorted.sorted.items ≡ order_of input ips = subst (λ (given : SelectionInput). c.in_ok-sorted.sorted.items ≡ order_of given ips) same c.in_ok-sorted.ensures.value in
    let order : IsOrder input ips (order_of input ips) = subst (λ (given : SelectionInput). IsOrder given ips (order_of given ips)) same c.in_ok-sorted.ensures.order in
    record { order = subst (IsOrder input ips) (sym value) order; value = value }
