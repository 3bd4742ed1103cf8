use Rattle.std.proofs.Common.{◌-◌, length}
use Rattle.he_inputs.specs.RaceReading.{IsWithin}
use Rattle.he_streaming.specs.Rounds.{IsAsked, TellsOn}
use Rattle.he_streaming.proofs.rounds.tell_races.Given as goal

abbrev pub invariant-loop-part : goal.invariant-loop-part
invariant-loop-part g l = IsWithin l.fn.bytes l.reader × TellsOn (IsAsked l.fn.asked) l.fn.bytes l.fn.part.begun l.fn.text.items l.text.items l.reader

abbrev pub decreases-loop-part : goal.decreases-loop-part
decreases-loop-part g l = length l.fn.bytes - l.reader.end
