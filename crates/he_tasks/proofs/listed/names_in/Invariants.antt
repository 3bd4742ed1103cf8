use Rattle.std.proofs.Common.{◌≡◌, map, take}
use Rattle.he_tasks.proofs.listed.names_in.Given as goal

abbrev pub invariant-loop-part : goal.invariant-loop-part
invariant-loop-part l = map (λ name. name.now) l.names.items ≡ map (λ part. part.now) (take l.part-index l.part-items)
