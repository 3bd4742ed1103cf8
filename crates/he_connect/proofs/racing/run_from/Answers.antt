use Rattle.he_connect.proofs.Synthesized.{comes_as, of_answers}
use Rattle.he_connect.proofs.Runs.{ran_so}
use Rattle.he_connect.specs.Origins.{origins_of}
use Rattle.he_connect.proofs.racing.run_from.Goals as goal

pub returns : goal.returns
returns g c = record {
  race = λ knows. ran_so c.args.setup.now.embeds c.is_by_nat64.result c.args.setup.now.request c.args.setup.now.start c.args.setup.now.to
      (origins_of c.in_ok-source.source) c.in_ok-raced.raced c.end_with.result c.in_ok-raced.ensures.replays c.in_ok-raced.ensures.winner
      (comes_as c.args.setup.now.embeds c.args.setup.now.request c.in_ok-lookups.lookups c.in_ok-source.source c.in_ok-source.ensures.origins (c.in_ok-lookups.ensures.comes knows))
      (of_answers c.args.setup.now.start c.in_ok-source.source c.in_ok-raced.raced.recorded c.in_ok-raced.ensures.source (c.in_ok-source.ensures.sound c.in_ok-lookups.ensures.sound))
      c.is_by_nat64.ensures c.end_with.ensures.texts c.end_with.ensures.winner;
}
