use Rattle.he_metrics.proofs.exposition.write_lookups.Goals as goal

pub returns : goal.returns
returns g c = c.write_metric.ensures
