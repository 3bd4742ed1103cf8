use Rattle.he_probing.proofs.Rounded.{asked-so}
use Rattle.he_probing.proofs.round.run_round.Goals as goal

pub returns : goal.returns
returns g c = asked-so c.args.request.now c.in_ok-setup.setup c.round_of-round.result c.requires c.in_ok-setup.ensures.setup c.in_ok-setup.ensures.embeds (c.round_of-round.ensures c.in_ok-setup.ensures.known)
