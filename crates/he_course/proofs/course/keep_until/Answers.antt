use Rattle.std.proofs.Common.{rules}
use Rattle.std.proofs.lemmas.Fn.{filter_same}
use Rattle.he_course.specs.Events.{comes_by}
use Rattle.he_course.proofs.course.keep_until.Goals as goal

pub returns : goal.returns
returns g c =
    filter_same _ (λ event. comes_by c.args.end event.tick event.kind) _ (λ x b f' k. search rules) _ _ c.retain.ensures.filtered
