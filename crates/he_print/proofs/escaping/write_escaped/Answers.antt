use Rattle.std.proofs.Common.{ap, ◌++◌, ◌∙◌, List, ℕ, sym}
use Rattle.he_print.proofs.StringLaws.{plain_stands}
use Rattle.he_print.proofs.escaping.write_escaped.Goals as goal

pub returns-in_ok-extend_from_slice : goal.returns-in_ok-extend_from_slice
returns-in_ok-extend_from_slice g c =
    c.in_ok-extend_from_slice.ensures.items
    ∙ ap (λ (l : List ℕ). c.args.text.now.items ++ l) (sym (plain_stands c.args.bytes.now (sym c.are_plain.ensures ∙ c.if-are_plain.true)))
