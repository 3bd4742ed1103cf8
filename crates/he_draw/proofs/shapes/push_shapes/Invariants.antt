use Rattle.std.proofs.Common.{◌≡◌, ◌++◌, drop}
use Rattle.std.specs.List.{flat_map}
use Rattle.he_print.specs.Parts.{fact_of}
use Rattle.he_draw.specs.Svg.{image_rows_facts}
use Rattle.he_draw.proofs.shapes.push_shapes.Given as goal

abbrev pub invariant-loop-place : goal.invariant-loop-place
invariant-loop-place g l =
    flat_map fact_of l.parts.items ++ image_rows_facts l.end l.place (drop l.place l.rows)
    ≡ flat_map fact_of l.fn.parts.items ++ image_rows_facts l.end 0 l.rows
