use Rattle.std.proofs.Common.{◌≡◌, ◌-◌}
use Rattle.he_dns.specs.Reading.{behind_records}
use Rattle.he_dns.proofs.codes.behind_records.Given as goal

-- the records that are left lead to where all lead
abbrev pub invariant-records : goal.invariant-records
invariant-records l = behind_records l.count l.message l.fn.at ≡ behind_records (l.count - l.passed) l.message l.at
