use Rattle.std.proofs.Common.{◌≡◌, List, map, true, sym, ◌∙◌, ap}
use Rattle.he_addr.specs.declared.ip.Ip.{Ip}
use Rattle.he_timeline.specs.Race.{History, known_of, usable_addresses}
use Rattle.he_select.specs.Preference.{order_of}
use Rattle.he_select.specs.Selection.{known_input, selection_input}
use Rattle.he_select.proofs.Alike.{nothing_order_of}
use Rattle.he_plan.proofs.Listed.{all_parts}
use Rattle.he_plan.proofs.Queued.{parts-usable}
use Rattle.he_plan.proofs.listing.sorted_unknown.Goals as goal

pub order-requires : goal.order-requires
order-requires g c = rw (c.deref.ensures.value ∙ c.in_ok-ips.ensures) (parts-usable c.args.timeline.now true true)

pub returns : goal.returns
returns g c =
    let race = c.args.timeline.now in
    let ips : List Ip = usable_addresses race in
    let known : order_of (selection_input race.policy race.host) ips ≡ order_of (known_input race.policy race.host (map (known_of race.history) ips)) ips =
    sym (nothing_order_of race.policy race.host ips) ∙ ap (λ (history : History). order_of (known_input race.policy race.host (map (known_of history) ips)) ips) (sym c.requires) in
    rw (c.policy.ensures.value, c.host.ensures.value, c.deref.ensures.value ∙ c.in_ok-ips.ensures ∙ all_parts race, known) at c.order.ensures.value
