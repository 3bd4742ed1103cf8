use Rattle.std.proofs.Common.{◌++◌, List, [], ◌∷◌, ◌∙◌, ap}
use Rattle.he_addr.specs.declared.ip.Ip.{Ip}
use Rattle.he_timeline.specs.declared.outcome.Outcome.{Outcome}
use Rattle.he_timeline.specs.Race.{Race}
use Rattle.he_timeline.specs.Timeline.{are_told_once}
use Rattle.he_timeline.proofs.timeline.Timeline.push_outcome.Goals as goal

pub push-requires : goal.push-requires
push-requires g c =
    ap (λ (told : List (Ip × Outcome)). are_told_once (told ++ (c.args.ip, c.args.outcome) ∷ [])) c.make_room.ensures
    ∙ ap (λ (race : Race). are_told_once (race.outcomes ++ (c.args.ip, c.args.outcome) ∷ [])) c.self.view_is
    ∙ c.requires.once
