use Rattle.std.proofs.Common.{◌≡◌, ◌++◌, ◌∙◌, List, OnOk, ap, subst}
use Rattle.he_print.specs.declared.part.Fact.{Fact}
use Rattle.he_record.specs.Moments.{moment_text}
use Rattle.he_story.specs.Lines.{told}
use Rattle.he_story.specs.Recorded.{time_facts}
use Rattle.he_statements.specs.declared.said.Said.{Said}
use Rattle.he_story.proofs.story.Story.tell_moment.Goals as goal

pub returns-in-Some : goal.returns-in-Some
returns-in-Some g c =
    let text : c.as_slice.result.now ≡ moment_text c.in-Some.moment = c.as_slice.ensures ∙ c.text.ensures in
    let Told : List (Fact Said) → Type 0 = λ facts. OnOk c.tell_time.result (told c.tell_time.new.self ≡ told c.args.self.now ++ facts) in
    rw c.in-Some.is (subst Told (ap time_facts text) c.tell_time.ensures)
