use Rattle.std.proofs.Common.{◌≡◌, ◌-◌, ◌++◌}
use Rattle.std.specs.Option.{option_map}
use Rattle.he_dns.specs.Reading.{entries_from}
use Rattle.he_dns.proofs.entries.read_entries.Given as goal

-- the entries so far and those to come are all
abbrev pub invariant-records : goal.invariant-records
invariant-records g l = entries_from l.count l.message l.family l.fn.at ≡ option_map (λ more. l.entries.items ++ more) (entries_from (l.count - l.read) l.message l.family l.at)
