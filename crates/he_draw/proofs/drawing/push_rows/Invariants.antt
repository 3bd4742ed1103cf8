use Rattle.std.proofs.Common.{◌≡◌, ◌++◌, drop}
use Rattle.std.specs.List.{flat_map}
use Rattle.he_print.specs.Parts.{fact_of}
use Rattle.he_draw.specs.Picture.{row_facts}
use Rattle.he_draw.proofs.drawing.push_rows.Given as goal

abbrev pub invariant-loop-place : goal.invariant-loop-place
invariant-loop-place g l =
    flat_map fact_of l.parts.items ++ flat_map (row_facts l.frame.columns l.frame.end) (drop l.place l.rows)
    ≡ flat_map fact_of l.fn.parts.items ++ flat_map (row_facts l.frame.columns l.frame.end) l.rows
