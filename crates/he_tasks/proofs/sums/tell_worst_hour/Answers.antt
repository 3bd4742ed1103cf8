use Rattle.std.proofs.Common.{ℕ, ◌≡◌, ◌∙◌, List, ap, codes, map, string_bytes, subst}
use Rattle.std.proofs.lemmas.Result.{on_ok_weaker}
use Rattle.he_compare.specs.Worst.{IsWorst}
use Rattle.he_compare.specs.declared.grouping.By.TheVariants as dividing
use Rattle.he_options.specs.declared.texts.Texts.{Texts}
use Rattle.he_totals.specs.Kept.{Run, kept_of}
use Rattle.he_summary.specs.declared.figures.Form.TheVariants as forms
use Rattle.he_totals.specs.declared.kept.Kept.{Kept}
use Rattle.he_tasks.specs.Summaries.{IsWorstHour, names_in}
use Rattle.he_tasks.proofs.sums.tell_worst_hour.Goals as goal

worst_hour : (texts : Texts) (runs : List Run) (names : List (List ℕ)) (kept : List Kept) (old new : List ℕ) → names ≡ names_in forms.Text texts → kept ≡ map kept_of runs
    → IsWorst (codes "worst hour: ") (record { by = dividing.Hour; names = names }) kept old new → IsWorstHour texts runs old new
worst_hour texts runs names kept old new is_names is_kept line =
    subst (λ (k : List Kept). IsWorst (codes "worst hour: ") (record { by = dividing.Hour; names = names_in forms.Text texts }) k old new) is_kept
    (subst (λ (n : List (List ℕ)). IsWorst (codes "worst hour: ") (record { by = dividing.Hour; names = n }) kept old new) is_names line)

pub returns : goal.returns
returns c = λ runs summed.
    on_ok_weaker c.write_worst.result
    (worst_hour c.args.texts.now runs (map string_bytes c.as_slice.result.now) c.kept.result.now c.args.text.now.items c.write_worst.new.text.items
    (ap (map string_bytes) c.as_slice.ensures.value ∙ c.in_ok-names.ensures) (c.kept.ensures ∙ summed.kept))
    c.write_worst.ensures
