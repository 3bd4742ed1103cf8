use Rattle.std.proofs.Common.{◌-◌, length}
use Rattle.he_inputs.specs.RaceReading.{IsWithin}
use Rattle.he_streaming.specs.Rounds.{IsAsked, TellsOn}
use Rattle.he_streaming.proofs.pieces.join_pieces.Given as goal

abbrev pub invariant-loop-begun : goal.invariant-loop-begun
invariant-loop-begun g l = IsWithin l.bytes l.begun × TellsOn (IsAsked l.asked) l.bytes l.fn.reader l.fn.text.items l.text.items l.begun

abbrev pub decreases-loop-begun : goal.decreases-loop-begun
decreases-loop-begun g l = length l.bytes - l.begun.end
