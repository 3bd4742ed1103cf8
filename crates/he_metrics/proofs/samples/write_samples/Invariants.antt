use Rattle.std.proofs.Common.{◌≡◌, ◌++◌, drop}
use Rattle.std.specs.List.{flat_map}
use Rattle.he_metrics.specs.Samples.{sample_line}
use Rattle.he_metrics.proofs.samples.write_samples.Given as goal

abbrev pub invariant-loop-sample : goal.invariant-loop-sample
invariant-loop-sample g l =
    l.out.items ++ flat_map (sample_line l.name) (drop l.sample-index l.samples)
    ≡ l.fn.out.items ++ flat_map (sample_line l.name) l.samples
