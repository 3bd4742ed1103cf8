use Rattle.std.proofs.Common.{◌≡◌, ◌++◌, drop}
use Rattle.he_dns.specs.Chains.{addresses_of}
use Rattle.he_dns.proofs.chain.addresses_of.Given as goal

-- the addresses so far and those of the entries to come are all
abbrev pub invariant-loop-entry : goal.invariant-loop-entry
invariant-loop-entry g l = l.addresses.items ++ addresses_of (drop l.entry-index l.entries) l.name ≡ addresses_of l.entries l.name
