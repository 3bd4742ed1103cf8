use Rattle.std.proofs.Common.{◌∙◌}
use Rattle.he_course.proofs.InterlacedLaws.{listed_once}
use Rattle.he_course.proofs.collecting.listed_at.Goals as goal

pub listed_in-requires : goal.listed_in-requires
listed_in-requires g c =
    listed_once c.args.timeline.now c.settings.ensures.race c.requires.six c.requires.four
    c.args.list.now.v6 c.args.list.now.v4 c.deref.result.now (c.deref.ensures.value ∙ c.requires.list) c.args.next.ip
