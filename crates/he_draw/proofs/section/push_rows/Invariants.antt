use Rattle.std.proofs.Common.{◌≡◌, ◌++◌, drop}
use Rattle.std.specs.List.{flat_map}
use Rattle.he_print.specs.Parts.{fact_of}
use Rattle.he_draw.specs.Page.{page_row_facts}
use Rattle.he_draw.proofs.section.push_rows.Given as goal

abbrev pub invariant-loop-row : goal.invariant-loop-row
invariant-loop-row g l =
    flat_map fact_of l.parts.items ++ flat_map (page_row_facts l.end) (drop l.row-index l.rows)
    ≡ flat_map fact_of l.fn.parts.items ++ flat_map (page_row_facts l.end) l.rows
