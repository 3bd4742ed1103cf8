use Rattle.std.proofs.Common.{◌≡◌, map, take}
use Rattle.he_probing.specs.Rows.{probe_of}
use Rattle.he_probing.proofs.rows.rows_of.Given as goal

abbrev pub invariant-loop-probe : goal.invariant-loop-probe
invariant-loop-probe l = record { rows : map probe_of l.rows.items ≡ take l.probe-index l.probes }
