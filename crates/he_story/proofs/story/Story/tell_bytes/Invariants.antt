use Rattle.std.proofs.Common.{◌≡◌, ◌++◌, drop}
use Rattle.he_story.specs.Lines.{told}
use Rattle.he_story.specs.Recorded.{byte_facts}
use Rattle.he_story.proofs.story.Story.tell_bytes.Given as goal

abbrev pub invariant-loop-byte : goal.invariant-loop-byte
invariant-loop-byte g l =
    told l.self ++ byte_facts (drop l.byte-index l.bytes) ≡ told l.fn.self ++ byte_facts l.bytes
