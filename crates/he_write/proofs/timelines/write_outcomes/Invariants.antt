use Rattle.std.proofs.Common.{◌≡◌, ◌++◌, take}
use Rattle.std.specs.List.{flat_map}
use Rattle.he_write.specs.Written.{outcome_text}
use Rattle.he_write.proofs.timelines.write_outcomes.Given as goal

abbrev pub invariant-loop-told : goal.invariant-loop-told
invariant-loop-told g l = l.out.items ≡ l.fn.out.items ++ flat_map outcome_text (take l.told-index l.outcomes)
