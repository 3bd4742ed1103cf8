use Rattle.std.proofs.Common.{[], ◌∷◌, ◌∙◌, ap}
use Rattle.he_timeline.specs.Timeline.{are_told_once}
use Rattle.he_timeline.proofs.Placed.{once_before}
use Rattle.he_timeline.proofs.by_address.ByAddress.push.Goals as goal

pub make_places-requires-clause-once : goal.make_places-requires-clause-once
make_places-requires-clause-once g c =
    ap are_told_once c.self.view_is ∙ once_before c.args.self.now ((c.args.ip, c.args.value) ∷ []) c.requires
