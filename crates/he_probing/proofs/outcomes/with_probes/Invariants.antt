use Rattle.std.proofs.Common.{◌≡◌, drop}
use Rattle.he_timeline.specs.Building.{unrecorded}
use Rattle.he_probing.specs.Recorded.{with_probes}
use Rattle.he_probing.proofs.outcomes.with_probes.Given as goal

abbrev pub invariant-loop-probe : goal.invariant-loop-probe
invariant-loop-probe l = record {
  rest : with_probes l.builder (drop l.probe-index l.probes) ≡ with_probes (unrecorded l.gathered) l.probes;
}
