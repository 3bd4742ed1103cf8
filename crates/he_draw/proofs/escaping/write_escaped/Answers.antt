use Rattle.std.proofs.Common.{ap, ◌++◌, ◌∙◌, List, ℕ, sym}
use Rattle.he_draw.proofs.EscapedLaws.{plain_stands}
use Rattle.he_draw.proofs.escaping.write_escaped.Goals as goal

pub returns-then-are_plain : goal.returns-then-are_plain
returns-then-are_plain g c =
    c.in_ok-extend_from_slice.ensures.items
    ∙ ap (λ (l : List ℕ). c.args.text.now.items ++ l) (sym (plain_stands c.args.bytes.now (sym c.are_plain.ensures ∙ c.if-are_plain.true)))
