use Rattle.std.proofs.Common.{◌≡◌, ◌++◌, take}
use Rattle.std.specs.List.{flat_map}
use Rattle.he_write.specs.Written.{pause_text}
use Rattle.he_write.proofs.timelines.write_pauses.Given as goal

abbrev pub invariant-loop-pause : goal.invariant-loop-pause
invariant-loop-pause g l = l.out.items ≡ l.fn.out.items ++ flat_map pause_text (take l.pause-index l.pauses)
