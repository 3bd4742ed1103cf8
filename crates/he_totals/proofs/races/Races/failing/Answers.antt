use Rattle.std.proofs.Common.{IfOk, subst}
use Rattle.he_totals.specs.Summed.{Sums}
use Rattle.he_totals.specs.Tries.{AreRanked}
use Rattle.he_totals.proofs.races.Races.failing.Goals as goal

pub returns : goal.returns
returns g c = subst (λ (s : Sums). IfOk c.ranked.result (λ told. AreRanked s.tallies told.items)) c.self.view_is c.ranked.ensures
