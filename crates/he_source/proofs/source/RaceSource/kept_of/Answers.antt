use Rattle.std.proofs.Common.{rules}
use Rattle.he_source.proofs.source.RaceSource.kept_of.Goals as goal

pub returns : goal.returns
returns g c = (c.in_ok-known_of.field-0, c.in_ok-now.now, search rules, c.into_told.ensures)
