use Rattle.std.proofs.Common.{List, ℕ, sym, ◌∙◌, ap}
use Rattle.std.proofs.lemmas.List.{take_rest}
use Rattle.he_record.specs.Left.{ends_token}
use Rattle.he_record.proofs.GoesOn.{by_end, no_start}
use Rattle.he_record.proofs.reading.goes_on.Goals as goal

pub returns-then-starts_with : goal.returns-then-starts_with
returns-then-starts_with c =
    c.ends_token.ensures ∙ ap (λ (rest : List ℕ). ends_token rest) (take_rest c.args.text.now 6)
    ∙ by_end c.args.text.now (sym c.starts_with.ensures.value ∙ c.if-starts_with.true)

pub returns-else-starts_with : goal.returns-else-starts_with
returns-else-starts_with c = c.if-starts_with.false ∙ sym (no_start c.args.text.now (sym c.starts_with.ensures.value ∙ c.if-starts_with.false))
