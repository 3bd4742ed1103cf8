use Rattle.std.proofs.Common.{◌≡◌, drop}
use Rattle.he_dns.specs.Reading.{addresses_ttl, lesser}
use Rattle.he_dns.proofs.chain.addresses_ttl.Given as goal

-- the least so far and that of the entries to come is that of all
abbrev pub invariant-loop-entry : goal.invariant-loop-entry
invariant-loop-entry l = lesser l.least (addresses_ttl (drop l.entry-index l.entries) l.name) ≡ addresses_ttl l.entries l.name
