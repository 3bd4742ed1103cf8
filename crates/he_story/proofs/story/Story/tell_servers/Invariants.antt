use Rattle.std.proofs.Common.{◌≡◌, ◌++◌, drop, map}
use Rattle.std.specs.List.{flat_map}
use Rattle.he_record.specs.Left.{said_of}
use Rattle.he_story.specs.Lines.{told}
use Rattle.he_story.specs.Why.{server_facts}
use Rattle.he_story.proofs.story.Story.tell_servers.Given as goal

abbrev pub invariant-loop-line : goal.invariant-loop-line
invariant-loop-line g l =
    told l.self ++ flat_map server_facts (map said_of (drop l.line-index l.lines))
    ≡ told l.fn.self ++ flat_map server_facts (map said_of l.lines)
