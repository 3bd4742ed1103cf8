use Rattle.std.proofs.Common.{ℕ, ◌++◌, List, ◌∙◌, ap, subst}
use Rattle.std.specs.List.{flat_map}
use Rattle.he_addr.specs.declared.ip.Ip.{Ip}
use Rattle.he_timeline.specs.declared.outcome.Outcome.{Outcome}
use Rattle.he_words.specs.Appending.{AppendsText}
use Rattle.he_write.specs.Written.{outcome_text, pause_text}
use Rattle.he_words.proofs.Appending.{writes_then}
use Rattle.he_write.proofs.timelines.write_told.Goals as goal

pub returns : goal.returns
returns g c =
    let P : List (ℕ × ℕ) → Type 0 = λ pauses. AppendsText c.write_pauses.result c.write_outcomes.new.out.items c.write_pauses.new.out.items (flat_map pause_text pauses) in
    let told = ap (λ (outcomes : List (Ip × Outcome)). c.args.out.now.items ++ flat_map outcome_text outcomes) c.outcomes.ensures.value in
    writes_then c.args.out.now.items c.write_outcomes.new.out.items c.write_pauses.new.out.items
    (flat_map outcome_text c.args.timeline.now.outcomes)
    (flat_map pause_text c.args.timeline.now.pauses)
    c.write_pauses.result (c.in_ok-write_outcomes.ensures ∙ told) (subst P c.pauses.ensures.value c.write_pauses.ensures)
