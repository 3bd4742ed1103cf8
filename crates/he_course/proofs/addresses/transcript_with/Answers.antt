use Rattle.std.proofs.Common.{◌∙◌}
use Rattle.he_course.proofs.InterlacedLaws.{sorted_addresses_are}
use Rattle.he_course.proofs.addresses.transcript_with.Goals as goal

pub transcript_by_order-requires : goal.transcript_by_order-requires
transcript_by_order-requires g c = c.in_ok-ips.ensures ∙ sorted_addresses_are c.args.timeline.now c.args.sorted.now c.requires
