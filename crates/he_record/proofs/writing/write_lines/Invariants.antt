use Rattle.std.proofs.Common.{◌≡◌, ◌++◌, take}
use Rattle.std.specs.List.{flat_map}
use Rattle.he_record.proofs.WrittenLines.{line_text}
use Rattle.he_record.proofs.writing.write_lines.Given as goal

abbrev pub invariant-loop-line : goal.invariant-loop-line
invariant-loop-line g l = l.out.items ≡ l.fn.out.items ++ flat_map line_text (take l.line-index l.lines)
