use Rattle.std.proofs.Common.{◌≡◌, map, string_bytes, take}
use Rattle.he_tasks.specs.Summaries.{name_in}
use Rattle.he_tasks.proofs.sums.names_in.Given as goal

abbrev pub invariant-loop-name : goal.invariant-loop-name
invariant-loop-name l = map string_bytes l.names.items ≡ map (λ file. name_in l.form file.now) (take l.name-index l.name-items)
