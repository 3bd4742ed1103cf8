use Rattle.std.proofs.Common.{◌≡◌, ◌-◌, ◌≤◌, length}
use Rattle.std.specs.Option.{IfSome}
use Rattle.he_dns.specs.Reading.{name_at, name_from}
use Rattle.he_dns.proofs.names.read_name.Given as goal

abbrev pub invariant-parts : goal.invariant-parts
invariant-parts l = record {
  same : name_from (255 - l.read) l.message l.begin l.place l.end l.octets ≡ name_at l.message l.at;
  within : IfSome l.end (λ end. end ≤ length l.message);
}
