use Rattle.std.proofs.Common.{◌≡◌, ◌*◌, take}
use Rattle.he_probe.specs.Schedule.{scheduled}
use Rattle.he_probe.proofs.probing.schedule.Given as goal

abbrev pub invariant-loop-ip : goal.invariant-loop-ip
invariant-loop-ip g l = record {
  start : l.start ≡ l.ip-index * l.pace;
  probes : l.probes.items ≡ scheduled l.pace l.timeout 0 (take l.ip-index l.addresses);
}
