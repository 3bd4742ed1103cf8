use Rattle.std.proofs.Common.{◌≡◌, ◌+◌, ◌∙◌, ℕ, List, None, ap, arith, map, string_bytes, subst}
use Rattle.std.specs.Borrow.{Bor}
use Rattle.std.proofs.lemmas.List.{map-append}
use Rattle.he_options.specs.Rows.{text_in}
use Rattle.he_options.specs.Words.{AsksSettings}
use Rattle.he_options.proofs.InRows.{label_more, one_more}
use Rattle.he_options.proofs.rows.rows_of.Goals as goal

pub loop-row-preserved : goal.loop-row-preserved
loop-row-preserved c =
    let row = c.loop-row.row in
    let texts = map (λ text. text.now) c.values_of-texts.result.now in
    let words = c.in_ok-words.words.items in
    let same : map (λ word. word.now) words ≡ map (text_in row) texts =
    c.in_ok-words.ensures ∙ ap (map string_bytes) c.as_slice.ensures.value ∙ c.in_ok-made.ensures in
    let asks = subst (λ (list : List (List ℕ)). AsksSettings list None c.in_ok-changes_in.field-0)
    (ap (map (λ (word : Bor (List ℕ)). word.now)) c.as_slice-in-loop-row.ensures.value ∙ same) c.in_ok-changes_in.ensures in (
      rw c.in_ok-push-3.ensures
          (one_more texts row (row + 1) c.loop-row.changes.items c.in_ok-changes_in.field-0 (omega arith) c.loop-row.invariant.0 asks),
      rw (c.in_ok-push-4.ensures, map-append)
          (label_more texts row (row + 1) words (string_bytes c.in_ok-join.field-0) (map string_bytes c.loop-row.labels.items) (omega arith) same
          (rw c.deref.ensures.value at c.in_ok-join.ensures.ok) c.loop-row.invariant.1),
    )
