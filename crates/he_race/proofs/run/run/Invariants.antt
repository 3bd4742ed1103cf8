use Rattle.std.proofs.Common.{◌≡◌}
use Rattle.he_race.specs.Running.{IsScripted}
use Rattle.he_race.proofs.Runs.{Stands}
use Rattle.he_race.proofs.run.run.Given as goal

abbrev pub invariant-loop : goal.invariant-loop
invariant-loop g l = record {
  scripted : IsScripted g.C.Connector l.timeline l.connector;
  limit : l.limit ≡ l.timeline.settings.limit;
  stands : Stands l.timeline l.fn.attempt l.counter l.future l.tick;
}
