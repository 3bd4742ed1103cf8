use Rattle.std.proofs.Common.{ℕ, ◌≡◌, ◌++◌, ◌∷◌, OnOk, subst}
use Rattle.std.specs.List.{flat_map}
use Rattle.he_print.specs.Parts.{fact_of}
use Rattle.he_print.specs.declared.part.Fact.TheVariants as facts
use Rattle.he_compare.specs.Rows.{verdict_facts}
use Rattle.he_compare.proofs.row.push_attempt_members.Goals as goal

pub returns : goal.returns
returns g c =
    subst (λ (total : ℕ). OnOk c.push_parts.result (flat_map fact_of c.push_parts.new.text.items ≡ flat_map fact_of c.args.text.now.items ++ facts.Number total ∷ verdict_facts c.args.verdicts)) c.total_of.ensures
    c.push_parts.ensures.facts
