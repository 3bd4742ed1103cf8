use Rattle.std.proofs.Common.{◌≡◌, ◌≤◌, take}
use Rattle.he_inputs.specs.RaceReading.{IsWithin}
use Rattle.he_streaming.specs.Pieces.{IsJoined}
use Rattle.he_streaming.specs.Rounds.{IsAsked, TellsOn}
use Rattle.he_streaming.proofs.pieces.join_some.Given as goal

abbrev pub invariant-loop-piece : goal.invariant-loop-piece
invariant-loop-piece g l =
    IsWithin l.bytes l.begun × TellsOn (IsAsked l.asked) l.bytes l.fn.before l.fn.text.items l.text.items l.begun
    × (l.fn.before.end ≤ l.begun.end) × (l.begun.end ≡ l.fn.before.end → IsJoined (take l.piece-index l.pieces) l.begun)
