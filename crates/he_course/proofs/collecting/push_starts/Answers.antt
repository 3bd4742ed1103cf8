use Rattle.std.proofs.Common.{refl}
use Rattle.he_course.proofs.InterlacedLaws.{first_list}
use Rattle.he_course.proofs.collecting.push_starts.Goals as goal

pub loop-line-init : goal.loop-line-init
loop-line-init g c = (
  first_list c.args.timeline.now c.new-list.result.v6 c.new-list.result.v4 c.new-list.result.ips.items c.new-list.ensures.no_v6 c.new-list.ensures.no_v4 c.new-list.ensures.ips,
  refl,
)
