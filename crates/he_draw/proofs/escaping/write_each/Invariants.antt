use Rattle.std.proofs.Common.{◌≡◌, ◌++◌, drop}
use Rattle.std.specs.List.{flat_map}
use Rattle.he_draw.specs.Page.{escaped}
use Rattle.he_draw.proofs.escaping.write_each.Given as goal

abbrev pub invariant-loop-byte : goal.invariant-loop-byte
invariant-loop-byte g l =
    l.text.items ++ flat_map escaped (drop l.byte-index l.bytes) ≡ l.fn.text.items ++ flat_map escaped l.bytes
