use Rattle.std.proofs.Common.{◌≡◌, ◌-◌}
use Rattle.he_dns.specs.Reading.{chain_end, chain_ttl, lesser}
use Rattle.he_dns.proofs.chain.chain_end.Given as goal

-- the chain from the name reached is what is left of the chain, and so with the least TTL
abbrev pub invariant-names : goal.invariant-names
invariant-names l =
    (chain_end (17 - l.passed) l.entries l.current ≡ chain_end 17 l.entries l.name)
    × (lesser l.least (chain_ttl (17 - l.passed) l.entries l.current) ≡ chain_ttl 17 l.entries l.name)
