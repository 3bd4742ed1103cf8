use Rattle.std.proofs.Common.{◌≡◌, drop}
use Rattle.he_story.specs.Hosts.{host_of}
use Rattle.he_story.proofs.preferred.host_of.Given as goal

abbrev pub invariant-loop-prefix : goal.invariant-loop-prefix
invariant-loop-prefix l = host_of (drop l.prefix-index l.prefixes) l.address ≡ host_of l.prefixes l.address
