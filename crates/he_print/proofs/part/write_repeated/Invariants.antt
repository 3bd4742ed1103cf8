use Rattle.std.proofs.Common.{◌≡◌, ◌++◌, ◌-◌}
use Rattle.std.specs.List.{repeat}
use Rattle.he_print.proofs.part.write_repeated.Given as goal

abbrev pub invariant-loop : goal.invariant-loop
invariant-loop g l = l.text.items ++ repeat (l.count - l.counter) l.words ≡ l.fn.text.items ++ repeat l.count l.words
