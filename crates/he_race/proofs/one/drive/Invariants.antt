use Rattle.std.proofs.Common.{◌≡◌}
use Rattle.he_race.specs.Following.{IsUnderWay}
use Rattle.he_race.proofs.one.drive.Given as goal

abbrev pub invariant-loop : goal.invariant-loop
invariant-loop g l = record {
  under_way : IsUnderWay g.C.Connector l.counter l.race;
  script : l.race.ticker.race ≡ l.fn.race.ticker.race;
  limit : l.limit ≡ l.fn.limit;
}
