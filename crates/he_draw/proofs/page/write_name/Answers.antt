use Rattle.std.proofs.Common.{ap, codes, ◌++◌, ◌∙◌}
use Rattle.std.specs.List.{flat_map}
use Rattle.he_draw.specs.Page.{escaped}
use Rattle.he_draw.proofs.TextLaws.{three_texts}
use Rattle.he_draw.proofs.page.write_name.Goals as goal

pub returns : goal.returns
returns g c =
    three_texts c.args.text.now.items c.extend_from_slice.new.self.items c.write_escaped.new.text.items c.extend_from_slice-2.new.self.items
    (codes "</article><article>\n<h2>") (flat_map escaped c.args.name.now) (codes "</h2>\n")
    c.in_ok-extend_from_slice.ensures.items
    (c.in_ok-write_escaped.ensures ∙ ap (λ n. c.extend_from_slice.new.self.items ++ flat_map escaped n) c.as_bytes.ensures.value)
    c.in_ok-extend_from_slice-2.ensures.items
