use Rattle.std.proofs.Common.{◌≡◌, List, map, sym, ◌∙◌, ap, subst}
use Rattle.std.specs.List.{list_all}
use Rattle.he_addr.specs.declared.ip.Ip.{Ip}
use Rattle.he_addr.specs.Ip.{is_usable}
use Rattle.he_select.specs.declared.known.Known.{Known}
use Rattle.he_select.specs.HostFaults.{is_sound_source}
use Rattle.he_select.specs.Preference.{IsOrder, order_of}
use Rattle.he_select.specs.Selection.{SelectionInput, known_input}
use Rattle.he_select.specs.Tables.{IsAdmitted}
use Rattle.he_select.specs.LookUps.{rows_of}
use Rattle.he_select.proofs.Hosted.{all_sound, given_is}
use Rattle.he_select.proofs.KnownLists.{usable_ips}
use Rattle.he_select.proofs.sorting.order_known.Goals as goal

pub sort_addresses-requires : goal.sort_addresses-requires
sort_addresses-requires g c = record {
  admitted = subst IsAdmitted (sym c.table.ensures.rows) c.table.ensures.admitted;
  sound = ap (list_all is_sound_source) c.sources.ensures.sources ∙ all_sound c.args.host.now c.sources.ensures.host;
  usable = ap (list_all is_usable) (c.deref.ensures.value ∙ c.in_ok-addresses.ensures) ∙ usable_ips c.args.known.now ∙ c.requires;
}

pub returns : goal.returns
returns g c =
    let known : List Known = c.args.known.now in
    let ips : List Ip = map (λ (one : Known). one.ip) known in
    let listed : c.deref.result.now ≡ ips = c.deref.ensures.value ∙ c.in_ok-addresses.ensures in
    let given : SelectionInput = record { rows = rows_of c.table.result; sources = c.sources.result.now; routes = c.routes.result.now; known = known } in
    let same : given ≡ known_input c.args.policy.now c.args.host.now known =
    given_is c.args.policy.now (rows_of c.table.result) c.args.host.now c.sources.result.now c.routes.result.now known c.table.ensures.rows c.sources.ensures.sources c.routes.ensures.routes in
    let input : SelectionInput = known_input c.args.policy.now c.args.host.now known in
    let value : c.in_ok-sorted.sorted.items ≡ order_of input ips = subst (λ (input : SelectionInput). c.in_ok-sorted.sorted.items ≡ order_of input ips) same (c.in_ok-sorted.ensures.value ∙ ap (λ (l : List Ip). order_of given l) listed) in
    let order : IsOrder input ips (order_of input ips) = subst (λ (input : SelectionInput). IsOrder input ips (order_of input ips)) same (subst (λ (l : List Ip). IsOrder given l (order_of given l)) listed c.in_ok-sorted.ensures.order) in
    record { order = subst (IsOrder input ips) (sym value) order; value = value }
