-- The history of addresses from earlier connections (RFC 8305 section 4).
use Rattle.std.specs.Prelude.{ℕ, ◌-◌, Bool, ◌&&◌, nat_eq, nat_le, Option}
use Rattle.std.specs.Map.{lookup}
use Rattle.he_addr.specs.Ip.{mapped_of, same_ip}
use Rattle.he_addr.specs.declared.ip.Ip.{Ip}
use Rattle.he_cache.specs.declared.history.History.{History}
use Rattle.he_cache.specs.declared.history.Seen.{Seen}

-- the last connection to an address
abbrev pub seen_of : History → Ip → Option Seen
seen_of history ip = lookup (nat_eq (mapped_of ip)) history.seen.entries

-- it counts for a day, and only from the same source: another source means another network
abbrev pub counts : Ip → ℕ → Seen → Bool
counts source now seen = same_ip seen.source source && nat_le (now - seen.at) 86400
