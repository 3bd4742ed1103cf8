use Rattle.std.proofs.Common.{List, ℕ, None, subst}
use Rattle.he_story.specs.Story.{Tells}
use Rattle.he_connect.proofs.racing.explain.Goals as goal

pub returns : goal.returns
returns c =
    let course = c.in_ok-course.course in
    let text = c.write_story.new.out.items in
    rw c.if-not-is_asked.false (course, c.in_ok-course.ensures, subst (λ (before : List ℕ). Tells c.args.told.now None course before text) c.new-story.ensures.items c.in_ok-write_story.ensures.ok)
