use Rattle.std.proofs.Common.{◌∙◌, Option, Some, rules, subst, sym}
use Rattle.he_totals.specs.Summed.{Sums}
use Rattle.he_tasks.specs.Summaries.{AddsSums}
use Rattle.he_tasks.proofs.text.add_text.Goals as goal

pub returns-in_default-end : goal.returns-in_default-end
returns-in_default-end g c =
    subst (λ (old : Option Sums). AddsSums {I = g.row.I.Denot} g.I.InputStream c.args.input.now c.add-end.new.input old (Some c.add-end.new.self) c.add-end.result)
    (sym c.in-Some.is ∙ c.take.ensures.value) (c.args.place, c.add-end.ensures, search rules)
