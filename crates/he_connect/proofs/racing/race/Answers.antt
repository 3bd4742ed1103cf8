use Rattle.he_connect.proofs.Runs.{began_so}
use Rattle.he_connect.proofs.racing.race.Goals as goal

pub returns : goal.returns
returns g c = began_so c.args.request.now c.in_ok-setup.setup c.run_from-run.result c.in_ok-setup.ensures.setup c.in_ok-setup.ensures.embeds (c.run_from-run.ensures.race c.in_ok-setup.ensures.known)
