use Rattle.std.proofs.Common.{◌≡◌, ◌∙◌, refl, ap, arith}
use Rattle.he_timeline.specs.Race.{Race}
use Rattle.he_race.proofs.Driven.{few-turns}
use Rattle.he_race.proofs.one.drive.Goals as goal

pub loop-preserved : goal.loop-preserved
loop-preserved g c = record {
  under_way = c.in_default.ensures.further c.loop.counter c.loop.invariant.under_way;
  script = c.in_default.ensures.script ∙ c.loop.invariant.script;
  limit = refl;
}

pub unreachable-requires : goal.unreachable-requires
unreachable-requires g c =
    let few = few-turns g.C.Connector c.loop.counter c.loop.race c.loop.invariant.under_way in
    let same : c.loop.race.ticker.race.settings.limit ≡ c.args.race.now.ticker.race.settings.limit = ap (λ (z : Race). z.settings.limit) c.loop.invariant.script in
    omega (arith, few, same, c.requires.limit)
