use Rattle.std.proofs.Common.{◌≡◌, ◌++◌, drop, map}
use Rattle.he_record.specs.Left.{said_of}
use Rattle.he_story.specs.Check.{servers_of}
use Rattle.he_story.proofs.check.servers.Given as goal

abbrev pub invariant-loop-line : goal.invariant-loop-line
invariant-loop-line g l =
    l.ips.items ++ servers_of (map said_of (drop l.line-index l.lines)) ≡ servers_of (map said_of l.lines)
