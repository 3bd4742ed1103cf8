use Rattle.std.proofs.Common.{ℕ, ◌≡◌, ◌∙◌, List, ap, map, string_bytes, subst}
use Rattle.std.proofs.lemmas.Result.{on_ok_weaker}
use Rattle.he_compare.specs.Groups.{IsGroupTable}
use Rattle.he_compare.specs.declared.grouping.By.{By as Dividing}
use Rattle.he_options.specs.declared.texts.Texts.{Texts}
use Rattle.he_totals.specs.Kept.{Run, kept_of}
use Rattle.he_summary.specs.declared.figures.Form.{Form}
use Rattle.he_totals.specs.declared.kept.Kept.{Kept}
use Rattle.he_tasks.specs.Summaries.{AreDivided, names_in}
use Rattle.he_tasks.proofs.sums.tell_by.Goals as goal

divided : (form : Form) (by : Dividing) (texts : Texts) (runs : List Run) (names : List (List ℕ)) (kept : List Kept) (old new : List ℕ) → names ≡ names_in form texts → kept ≡ map kept_of runs
    → IsGroupTable form (record { by = by; names = names }) kept old new → AreDivided form by texts runs old new
divided form by texts runs names kept old new is_names is_kept table =
    subst (λ (k : List Kept). IsGroupTable form (record { by = by; names = names_in form texts }) k old new) is_kept
    (subst (λ (n : List (List ℕ)). IsGroupTable form (record { by = by; names = n }) kept old new) is_names table)

pub returns : goal.returns
returns c = λ runs summed.
    on_ok_weaker c.write_groups.result
    (divided c.args.form c.args.by c.args.texts.now runs (map string_bytes c.as_slice.result.now) c.kept.result.now c.args.text.now.items c.write_groups.new.text.items
    (ap (map string_bytes) c.as_slice.ensures.value ∙ c.in_ok-names.ensures) (c.kept.ensures ∙ summed.kept))
    c.write_groups.ensures
