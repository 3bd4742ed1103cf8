use Rattle.std.proofs.Common.{◌≡◌, drop}
use Rattle.he_dns.specs.Chains.{alias_of}
use Rattle.he_dns.specs.Ttls.{alias_ttl}
use Rattle.he_dns.proofs.chain.alias_of.Given as goal

-- the first record that says so is not among those that were passed
abbrev pub invariant-loop-entry : goal.invariant-loop-entry
invariant-loop-entry l =
    (alias_of (drop l.entry-index l.entries) l.name ≡ alias_of l.entries l.name)
    × (alias_ttl (drop l.entry-index l.entries) l.name ≡ alias_ttl l.entries l.name)
