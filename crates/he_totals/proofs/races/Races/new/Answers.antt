use Rattle.std.proofs.Common.{◌∙◌, sym}
use Rattle.he_totals.proofs.Hosted.{no_pairs}
use Rattle.he_totals.proofs.races.Races.new.Goals as goal

pub returns-clause-none : goal.returns-clause-none
returns-clause-none g c = record {
  kept = c.new.ensures.items;
  tallies = c.none.ensures;
  servers = c.none-2.ensures;
  hosts = c.none-3.ensures.named;
  pairs = c.none-3.ensures.paired ∙ sym (no_pairs c.none-3.result.places);
}
