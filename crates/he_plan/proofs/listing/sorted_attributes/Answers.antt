use Rattle.std.proofs.Common.{◌∙◌}
use Rattle.he_timeline.specs.Race.{usable_addresses}
use Rattle.he_plan.proofs.Known.{known_ips, known_usable}
use Rattle.he_plan.proofs.listing.sorted_attributes.Goals as goal

pub order_known_with_attributes-requires : goal.order_known_with_attributes-requires
order_known_with_attributes-requires g c = known_usable c.args.timeline.now _ (c.deref.ensures.value ∙ c.in_ok-known.ensures)

pub returns : goal.returns
returns g c =
    rw (c.policy.ensures.value, c.host.ensures.value, c.deref.ensures.value ∙ c.in_ok-known.ensures, known_ips c.args.timeline.now.history (usable_addresses c.args.timeline.now)) at c.order_known_with_attributes.ensures.value
