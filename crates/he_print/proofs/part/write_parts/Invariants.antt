use Rattle.std.proofs.Common.{◌≡◌, ◌++◌, drop}
use Rattle.std.specs.List.{flat_map}
use Rattle.he_print.specs.Parts.{text_of}
use Rattle.he_print.proofs.part.write_parts.Given as goal

abbrev pub invariant-loop-part : goal.invariant-loop-part
invariant-loop-part g l =
    l.text.items ++ flat_map text_of (drop l.part-index l.parts) ≡ l.fn.text.items ++ flat_map text_of l.parts
