use Rattle.std.proofs.Common.{◌≡◌, map, take}
use Rattle.he_probe.specs.Probing.{ip_of, row_ip, row_of}
use Rattle.he_probe.proofs.probing.rows_of.Given as goal

abbrev pub invariant-loop-probe : goal.invariant-loop-probe
invariant-loop-probe g l = record {
  rows : l.rows.items ≡ map row_of (take l.probe-index l.probes);
  ips : map row_ip l.rows.items ≡ map ip_of (take l.probe-index l.probes);
}
