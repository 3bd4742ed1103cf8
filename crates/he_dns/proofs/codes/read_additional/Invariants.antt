use Rattle.std.proofs.Common.{◌≡◌, ◌-◌, None}
use Rattle.he_dns.specs.Reading.{extension_from}
use Rattle.he_dns.proofs.codes.read_additional.Given as goal

-- the records that are left add to what was found as all do
abbrev pub invariant-records : goal.invariant-records
invariant-records l =
    extension_from l.count l.message None l.fn.at ≡ extension_from (l.count - l.read) l.message l.extension l.at
